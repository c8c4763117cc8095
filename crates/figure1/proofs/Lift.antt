-- What an engine supplies for one entry holds over every schedule: its history is legal, and the record is in the state that figure 1 is in
-- after that history. Assumes nothing.
use mathlib.Core.Path.{◌≡◌, refl}
use mathlib.Core.List.{List, [], ◌∷◌, ◌++◌, append_assoc}
use Rattle.figure1.specs.Histories.{State, Event, after, after_all, Follows}
use Rattle.figure1.specs.Engine.{Engine, run, history}

-- one history after another
pub after-append : (a : State) (xs ys : List Event) → after_all a (xs ++ ys) ≡ after_all (after_all a xs) ys
after-append a [] ys = refl
after-append a (x ∷ xs) ys = after-append (after a x) xs ys

pub follows_append : (a : State) (xs ys : List Event) → Follows a xs → Follows (after_all a xs) ys → Follows a (xs ++ ys)
follows_append a [] ys f g = g
follows_append a (x ∷ xs) ys f g = (f.0, follows_append (after a x) xs ys f.1 g)

pub follows_split : (a : State) (xs ys : List Event) → Follows a (xs ++ ys) → Follows a xs × Follows (after_all a xs) ys
follows_split a [] ys f = (tt, f)
follows_split a (x ∷ xs) ys f = let r = follows_split (after a x) xs ys f.1 in ((f.0, r.0), r.1)

module _ (G : Engine) where
  pub lift_keeps : (es : List G.Entry) (m : G.Record) → G.Kept m → G.Kept (run G m es)
  lift_keeps [] m K = K
  lift_keeps (e ∷ es) m K = lift_keeps es (G.next m e) (G.keeps m e K)

  pub lift : (es : List G.Entry) (m : G.Record) (a : State) → G.Kept m → G.Matches m a
      → Follows a (history G m es) × G.Matches (run G m es) (after_all a (history G m es))
  lift [] m a K M = (tt, M)
  lift (e ∷ es) m a K M =
      let one = G.agrees m e a K M in
      let more = lift es (G.next m e) (after_all a (G.events m e)) (G.keeps m e K) one.1 in
      (follows_append a (G.events m e) (history G (G.next m e) es) one.0 more.0, rw after-append more.1)

  -- the history of one schedule after another
  pub history-append : (es fs : List G.Entry) (m : G.Record) → history G m (es ++ fs) ≡ history G m es ++ history G (run G m es) fs
  history-append [] fs m = refl
  history-append (e ∷ es) fs m = rw (history-append es fs (G.next m e), append_assoc (G.events m e) (history G (G.next m e) es) _)
