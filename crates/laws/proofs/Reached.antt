-- Every record reached from an accepted setup, by entries and runs in any mixture, is `Kept`, and single entries reach it too. Assumes nothing.
use Prim.Native.Nat.{ℕ}
use mathlib.Core.Path.{◌≡◌, refl, ap, ◌∙◌}
use mathlib.Core.List.{List, [], ◌∷◌, ◌++◌}
use Rattle.cells.specs.Apply.{apply_of}
use Rattle.cells.specs.Setup.{setup_of}
use Rattle.entries.specs.Schedule.{entries_of}
use Rattle.runs.specs.Run.{ran_of}
use Rattle.laws.specs.Types.{Machine}
use Rattle.laws.specs.Kept.{Kept}
use Rattle.laws.specs.Schedules.{applied, tried, Reached, set_up, entered, ran, Scheduled}
use Rattle.laws.proofs.Table.{entry-keeps}
use Rattle.laws.proofs.Start.{setup_kept}
use Rattle.laws.proofs.Runs.{by_run}

pub schedule-keeps : (es : List (List ℕ)) (m : Machine) → Kept m → Kept (applied m es)
unfolding applied
schedule-keeps [] m K = K
schedule-keeps (e ∷ es) m K = schedule-keeps es (apply_of m e).machine (entry-keeps m e K)

pub run-keeps : (m : Machine) (s : List ℕ) (room : ℕ) → Kept m → Kept (ran_of m s room).machine
run-keeps m s room K = by_run Kept m s room K (schedule-keeps (tried m (entries_of s)) m K)

pub reached_kept : {m : Machine} → Reached m → Kept m
reached_kept (set_up s used q) = setup_kept s used q
reached_kept (entered m e r) = entry-keeps m e (reached_kept r)
reached_kept (ran m s room r) = run-keeps m s room (reached_kept r)

pub applied-append : (es fs : List (List ℕ)) (m : Machine) → applied m (es ++ fs) ≡ applied (applied m es) fs
unfolding applied
applied-append [] fs m = refl
applied-append (e ∷ es) fs m = applied-append es fs (apply_of m e).machine

more : (m : Machine) (es : List (List ℕ)) → Scheduled m → Scheduled (applied m es)
more m es r =
    record {
      setup = r.setup;
      used = r.used;
      ready = r.ready;
      entries = r.entries ++ es;
      reaches = applied-append r.entries es (setup_of r.setup).machine ∙ ap (λ (x : Machine). applied x es) r.reaches;
    }

-- a run is the entries that it tries
pub scheduled : {m : Machine} → Reached m → Scheduled m
unfolding applied
scheduled (set_up s used q) = record { setup = s; used = used; ready = q; entries = []; reaches = refl }
scheduled (entered m e r) = more m (e ∷ []) (scheduled r)
scheduled (ran m s room r) = by_run Scheduled m s room (scheduled r) (more m (tried m (entries_of s)) (scheduled r))
