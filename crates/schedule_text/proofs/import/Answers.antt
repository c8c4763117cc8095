-- `import`: what is written has room.
use Rattle.texts.proofs.Going.{answered-fits, laid-length}
use Rattle.schedule_text.proofs.import.Goals as goal

pub tell-requires : goal.tell-requires
tell-requires g c = rw (c.import-made.ensures.0, c.import-made.ensures.1, laid-length _ _) (answered-fits _ _)
