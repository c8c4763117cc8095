-- A run that has taken i entries takes one more, stops or ends. Assumes nothing.
use Prim.Native.Nat.{ℕ, ◌+◌, ◌-◌, ◌*◌, ◌≤◌, ◌<◌}
use mathlib.Core.Path.{◌≡◌, refl, sym, ap, ◌∙◌}
use mathlib.Core.Bool.{true, false}
use mathlib.Core.List.{List, [], ◌∷◌}
use native.Mathlib.Omega.{arith}
use lib.ListN.{length, take, drop, set, length-set}
use Rattle.answers.specs.Numbers.{number_of}
use Rattle.wire.specs.Bytes.{overlaid}
use Rattle.cells.specs.Apply.{apply_of}
use Rattle.runs.specs.Types.{Machine, Report}
use Rattle.runs.specs.Counts.{accepted, kind_of, task_of}
use Rattle.entries.specs.Schedule.{entries_in, cut, entries_of}
use Rattle.runs.specs.Run.{counted, report_of, refused_at, ran_from, reply_bytes, replies_from, free_now, notes_from, noted_by}
use Rattle.runs.specs.OneEntry.{Few}
use Rattle.runs.proofs.Laws.{counted_by_lem, few_more, cut-next, cut-none, ran_on, ran_stops, ran_ends, replies_on, replies_stop, replies_end}
use Rattle.wire.proofs.Laws.{over_none, over-more, over-length}
use Rattle.runs.proofs.Notes.{noted_at, noted_front, noted_on, noted_stops, noted_ends}

-- a run on the bytes s from machine m₀ and the buffers o₀ and f₀ has taken i entries: what is left of it gives the whole
pub record Going (s o₀ f₀ : List ℕ) (m₀ : Machine) (o f : List ℕ) (m : Machine) (r : Report) (i : ℕ) : Type 0 where
  pub taken : i ≤ entries_in s
  pub few : Few i r
  pub long : length o ≡ length o₀
  pub free-long : length f ≡ length f₀
  pub ran : ran_from m r (cut (entries_in s - i) (drop (10 * i) s)) ≡ ran_from m₀ (report_of 0) (entries_of s)
  pub replies : overlaid o (8 * i) (replies_from m (cut (entries_in s - i) (drop (10 * i) s))) ≡ overlaid o₀ 0 (replies_from m₀ (entries_of s))
  pub noted : noted_at f i (notes_from m (cut (entries_in s - i) (drop (10 * i) s))) ≡ noted_by (notes_from m₀ (entries_of s)) f₀

module _ (s o₀ f₀ : List ℕ) (m₀ : Machine) where
  pub starts : Going s o₀ f₀ m₀ o₀ f₀ m₀ (report_of 0) 0
  starts =
      let none : entries_in s - 0 ≡ entries_in s = omega arith in
      record {
        taken = omega arith;
        few = record { accepted = omega arith; loads = omega arith; load_steps = omega arith; turned_back = omega arith; swaps = omega arith };
        long = refl;
        free-long = refl;
        ran = rw none;
        replies = rw none;
        noted = rw none (noted_front f₀ (notes_from m₀ (entries_of s)));
      }

  module _ (o f : List ℕ) (m : Machine) (r : Report) (i : ℕ) (g : Going s o₀ f₀ m₀ o f m r i) where
    pub ends : entries_in s ≤ i → (record { machine = m; report = r } ≡ ran_from m₀ (report_of 0) (entries_of s)) × (o ≡ overlaid o₀ 0 (replies_from m₀ (entries_of s))) × (f ≡ noted_by (notes_from m₀ (entries_of s)) f₀)
    ends h =
        let all : i ≡ entries_in s = omega (arith, g.taken) in
        let none : cut (entries_in s - i) (drop (10 * i) s) ≡ [] = ap (λ (k : ℕ). cut (entries_in s - k) (drop (10 * i) s)) all ∙ cut-none (entries_in s) (drop (10 * i) s) in
        (sym (ran_ends m r) ∙ (rw none at g.ran), sym (over_none o (8 * i)) ∙ ap (overlaid o (8 * i)) (sym (replies_end m)) ∙ (rw none at g.replies), sym (noted_ends f i m) ∙ (rw none at g.noted))

    module _ (more : i < entries_in s) (room : 8 * entries_in s ≤ length o₀) where
      abbrev e : List ℕ
      e = take 10 (drop (10 * i) s)

      pub fits : 8 * i + 8 ≤ length o
      fits = omega (arith, g.long)

      next : cut (entries_in s - i) (drop (10 * i) s) ≡ e ∷ cut (entries_in s - (i + 1)) (drop (10 * (i + 1)) s)
      next = cut-next (entries_in s) i s more

      pub stops : accepted (apply_of m e).answer ≡ false
          → (record { machine = (apply_of m e).machine; report = refused_at (number_of (apply_of m e).answer) r } ≡ ran_from m₀ (report_of 0) (entries_of s))
          × (overlaid o (8 * i) (reply_bytes (apply_of m e)) ≡ overlaid o₀ 0 (replies_from m₀ (entries_of s)))
          × (set f i (free_now (apply_of m e).machine) ≡ noted_by (notes_from m₀ (entries_of s)) f₀)
      stops h =
          (sym (ran_stops m r e _ h) ∙ (rw next at g.ran), ap (overlaid o (8 * i)) (sym (replies_stop m r e _ h)) ∙ (rw next at g.replies), sym (noted_stops f i m e _ h) ∙ (rw next at g.noted))

      pub goes_on : accepted (apply_of m e).answer ≡ true → Going s o₀ f₀ m₀ (overlaid o (8 * i) (reply_bytes (apply_of m e))) (set f i (free_now (apply_of m e).machine)) (apply_of m e).machine (counted m e r) (i + 1)
      goes_on h =
          let at : 8 * i + 8 ≡ 8 * (i + 1) = omega arith in
          record {
            taken = omega arith;
            few = rw (counted_by_lem m e r h) (few_more i r (kind_of e) (task_of m e).phase (task_of (apply_of m e).machine e).phase g.few);
            long = over-length o (8 * i) (reply_bytes (apply_of m e)) fits ∙ g.long;
            free-long = length-set f i _ ∙ g.free-long;
            ran = sym (ran_on m r e _ h) ∙ (rw next at g.ran);
            replies = ap (λ (k : ℕ). overlaid (overlaid o (8 * i) (reply_bytes (apply_of m e))) k (replies_from (apply_of m e).machine (cut (entries_in s - (i + 1)) (drop (10 * (i + 1)) s)))) (sym at)
                ∙ over-more o (8 * i) (reply_bytes (apply_of m e)) _ fits ∙ ap (overlaid o (8 * i)) (sym (replies_on m r e _ h)) ∙ (rw next at g.replies);
            noted = sym (noted_on f i m e _ h) ∙ (rw next at g.noted);
          }
