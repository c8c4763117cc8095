-- The free-nodes question is answered with the full count, of every record that is reached, and so are the questions that a run asks. Assumes nothing.
use Rattle.std.specs.Prelude.{Ok}
use Prim.Native.Nat.{ℕ, zero, suc, ◌+◌, ◌-◌, ◌*◌, ◌≤◌, ◌<◌}
use native.Mathlib.Omega.{arith}
use native.Mathlib.Decide.{dec_le}
use mathlib.Core.Path.{◌≡◌, refl, sym, ap, ◌∙◌}
use mathlib.Core.Bool.{Bool, cond}
use mathlib.Core.List.{List, [], ◌∷◌}
use lib.ListN.{length, get_or, take, drop, length-append, length-take, length-drop, get_or-append, get_or-eq_default}
use lib.Seq.{get_or-append-add, get_or-drop, get_or-take}
use borrow.Author.Tests.{le-leb}
use Rattle.tallies.proofs.Lists.{by_test, either}
use Rattle.cells.specs.Apply.{apply_of}
use Rattle.cells.specs.Free.{free_of, free_nodes, free_value}
use Rattle.runs.specs.Counts.{accepted}
use Rattle.entries.specs.Schedule.{entries_in, entries_of}
use Rattle.runs.specs.Run.{notes_from, starts_of, noted_by, noted_of}
use Rattle.laws.specs.Types.{Machine}
use Rattle.laws.specs.Meaning.{free}
use Rattle.laws.specs.Kept.{Kept}
use Rattle.laws.specs.Schedules.{applied, tried}
use Rattle.laws.proofs.Table.{entry-keeps}
use Rattle.laws.proofs.Ranges.{pool_ok_lem, in_range_lem}

pub told_free : (m : Machine) → Kept m → free_nodes m ≡ Ok (free m)
unfolding free_of
told_free m K = rw (pool_ok_lem m K) (ap Ok K.free_counted)

-- one answer for each entry that is tried, and it is the full count after that entry
pub notes_length : (es : List (List ℕ)) (m : Machine) → length (notes_from m es) ≡ length (tried m es)
unfolding notes_from tried
notes_length [] m = refl
notes_length (e ∷ es) m =
    let m' = (apply_of m e).machine in
    ap suc (either (λ b. length (cond b (notes_from m' es) []) ≡ length (cond b (tried m' es) [])) (accepted (apply_of m e).answer) (λ q. notes_length es m') (λ q. refl))

note_at : (es : List (List ℕ)) (m : Machine) → Kept m → (i : ℕ) → i < length (tried m es) → get_or (notes_from m es) i 0 ≡ free (applied m (take (suc i) (tried m es)))
unfolding notes_from tried applied
note_at [] m K i h = absurd (omega arith)
note_at (e ∷ es) m K zero h = ap free_value (told_free (apply_of m e).machine (entry-keeps m e K))
note_at (e ∷ es) m K (suc i) h =
    let m' = (apply_of m e).machine in
    let es' : Bool → List (List ℕ) = λ b. cond b (tried m' es) [] in
    either (λ b. suc i < suc (length (es' b)) → get_or (cond b (notes_from m' es) []) i 0 ≡ free (applied m' (take (suc i) (es' b)))) (accepted (apply_of m e).answer)
    (λ q k. note_at es m' (entry-keeps m e K) i (omega arith)) (λ q k. absurd (omega arith)) h

-- a buffer with some answers in its front has its length, the answers as far as it goes, and what it had behind them
module _ (notes out : List ℕ) where
  noted_length : length (noted_by notes out) ≡ length out
  noted_length = simp (length-append, length-take, length-drop) (omega arith)

  noted_at_lem : (i : ℕ) → i < length notes → i < length out → get_or (noted_by notes out) i 0 ≡ get_or notes i 0
  noted_at_lem i h k =
      get_or-append (take (length out) notes) (drop (length notes) out) 0 i (omega (arith, length-take (length out) notes)) ∙ get_or-take (length out) notes i 0 k

  noted_past : (i : ℕ) → length notes ≤ i → get_or (noted_by notes out) i 0 ≡ get_or out i 0
  noted_past i h =
      elim (dec_le (length out) i) [
        | yes l ↦ get_or-eq_default (noted_by notes out) 0 (omega (arith, noted_length)) ∙ sym (get_or-eq_default out 0 l)
        | no l ↦ (let front = length-take (length out) notes in
            let e : i ≡ length (take (length out) notes) + (i - length notes) = omega arith in
            let back : length notes + (i - length notes) ≡ i = omega arith in
            ap (λ (j : ℕ). get_or (noted_by notes out) j 0) e ∙ get_or-append-add (take (length out) notes) (drop (length notes) out) (i - length notes) 0
            ∙ get_or-drop (length notes) out (i - length notes) 0 ∙ ap (λ (j : ℕ). get_or out j 0) back)
      ]

-- the buffer for the answers keeps its length and every byte behind the last answer
module _ (m : Machine) (s : List ℕ) (room : ℕ) (out : List ℕ) where
  pub notes_leave : length (noted_of m s room out) ≡ length out
  unfolding noted_of
  notes_leave = by_test (λ (l : List ℕ). length l ≡ length out) (starts_of m s room) _ _ (λ q. noted_length (notes_from m (entries_of s)) out) (λ q. refl)

  pub notes_past : (i : ℕ) → length (tried m (entries_of s)) ≤ i → get_or (noted_of m s room out) i 0 ≡ get_or out i 0
  unfolding noted_of
  notes_past i h =
      by_test (λ (l : List ℕ). get_or l i 0 ≡ get_or out i 0) (starts_of m s room) _ _
      (λ q. noted_past (notes_from m (entries_of s)) out i (omega (arith, notes_length (entries_of s) m))) (λ q. refl)

  -- the i-th answer is the full count after the i-th entry that is tried
  pub notes_free : Kept m → length s ≤ 65530 → 8 * entries_in s ≤ room → (i : ℕ) → i < length (tried m (entries_of s)) → i < length out
      → get_or (noted_of m s room out) i 0 ≡ free (applied m (take (suc i) (tried m (entries_of s))))
  unfolding noted_of
  notes_free K h k i l j =
      rw (in_range_lem m K, le-leb (length s) 65530 h, le-leb (8 * entries_in s) room k)
      (noted_at_lem (notes_from m (entries_of s)) out i (omega (arith, notes_length (entries_of s) m)) j ∙ note_at (entries_of s) m K i l)
