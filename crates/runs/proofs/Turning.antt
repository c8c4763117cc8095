-- One entry of a lent machine in range is what `apply_of` has: the run takes it, or stops there. Assumes nothing.
use Rattle.std.specs.Prelude.{Ok, Err}
use Prim.Native.Nat.{ℕ, ◌+◌, ◌*◌, ◌≤◌, ◌<◌, min}
use mathlib.Core.Path.{◌≡◌, refl, sym, ap, ◌∙◌, subst}
use mathlib.Core.Bool.{true, false, false≢true}
use mathlib.Core.List.{List, ◌++◌}
use native.Mathlib.Omega.{arith}
use mathlib.Core.Logic.{inl, inr}
use lib.ListN.{length, get_or, take, drop, set, length-drop, drop_of_length-le}
use lib.Seq.{drop-drop}
use Rattle.std.proofs.Math.Seq.{take-append_seam, drop-append_seam}
use Rattle.std.proofs.lemmas.Bool.{cases_lt}
use Rattle.std.proofs.lemmas.List.{take_min, length-append, nil_from_length}
use Rattle.answers.specs.Types.{Answer}
use Rattle.answers.specs.Numbers.{refusal_number, number_of, value_of}
use Rattle.wire.specs.Bytes.{reply_of, overlaid}
use Rattle.tasks.specs.Records.{no_task}
use Rattle.steps.specs.Table.{answer_of}
use Rattle.entries.specs.declared.Entry.{Entry}
use Rattle.entries.specs.Entry.{entry_of}
use Rattle.entries.specs.Schedule.{entries_in, entries_of}
use Rattle.entries.proofs.Laws.{entry_read}
use Rattle.tables.specs.Tables.{task_in}
use Rattle.cells.specs.Machine.{placed, refused_by, in_range, Long}
use Rattle.cells.specs.Apply.{apply_of}
use Rattle.cells.proofs.Ranges.{keeps_ranges, keeps_lengths}
use Rattle.cells.proofs.Untested.{unread_applied, its_own, order_applied}
use Rattle.turns.specs.Turned.{Carries, ordered_of}
use Rattle.runs.specs.Types.{Machine, Report, Applied, Task, Effect, Refusal}
use Rattle.runs.specs.Counts.{accepted, kind_of, task_of}
use Rattle.runs.specs.Run.{counted, report_of, refused_at, ran_from, reply_bytes, replies_from, free_now, notes_from, noted_by}
use Rattle.runs.specs.OneEntry.{counted_by}
use Rattle.runs.proofs.Laws.{counted_by_lem}
use Rattle.runs.proofs.Going.{Going, stops, goes_on}

-- the run has taken i entries, and the machine is in range
pub record Turning (s o₀ f₀ : List ℕ) (m₀ : Machine) (o f : List ℕ) (m : Machine) (r : Report) (i : ℕ) : Type 0 where
  pub going : Going s o₀ f₀ m₀ o f m r i
  pub long : Long m
  pub sound : in_range m ≡ true

-- the run is over
abbrev pub Over : List ℕ → List ℕ → List ℕ → Machine → List ℕ → List ℕ → Machine → Report → Type 0
Over s o₀ f₀ m₀ o f m r =
    (m ≡ (ran_from m₀ (report_of 0) (entries_of s)).machine) × (r ≡ (ran_from m₀ (report_of 0) (entries_of s)).report)
    × (o ≡ overlaid o₀ 0 (replies_from m₀ (entries_of s))) × (f ≡ noted_by (notes_from m₀ (entries_of s)) f₀)

-- the ten bytes, or fewer, that are cut off the front of what is left, and what is left then
module _ (s : List ℕ) (i size : ℕ) (l x w : List ℕ) (ten : size ≡ 10) (left : l ≡ drop (10 * i) s) (parts : l ≡ x ++ w) (long : length x ≡ min size (length l)) where
  long_x : length x ≡ min 10 (length l)
  long_x = long ∙ ap (λ (k : ℕ). min k (length l)) ten

  pub next-bytes : x ≡ take 10 (drop (10 * i) s)
  next-bytes = sym (take-append_seam x w) ∙ ap (take (length x)) (sym parts) ∙ ap (λ (k : ℕ). take k l) long_x ∙ take_min 10 l ∙ ap (take 10) left

  pub bytes-left : w ≡ drop (10 * (i + 1)) s
  bytes-left =
      let all = ap length parts ∙ length-append x w in
      let at : 10 * i + 10 ≡ 10 * (i + 1) = omega arith in
      let dropped : w ≡ drop 10 l = elim (cases_lt (length l) 10) [
        | inl short ↦ nil_from_length w (omega (arith, all, long_x)) ∙ sym (drop_of_length-le l {i = 10} (omega arith))
        | inr full ↦ (let ten_x : length x ≡ 10 = omega (arith, long_x) in sym (drop-append_seam x w) ∙ ap (λ (k : ℕ). drop k (x ++ w)) ten_x ∙ ap (drop 10) (sym parts))
      ] in
      dropped ∙ ap (drop 10) left ∙ drop-drop 10 (10 * i) s ∙ ap (λ (k : ℕ). drop k s) at

  pub more-bytes : 0 < length l → i < entries_in s
  more-bytes h = let some = ap length left ∙ length-drop (10 * i) s in omega (arith, some, h)

-- nothing is left
pub no-bytes : (s : List ℕ) (i : ℕ) (l : List ℕ) → l ≡ drop (10 * i) s → length l ≡ 0 → entries_in s ≤ i
no-bytes s i l left h = let some = ap length left ∙ length-drop (10 * i) s in omega (arith, some, h)

-- x is the next entry
module _ {s o₀ f₀ : List ℕ} {m₀ : Machine} {o f : List ℕ} {m : Machine} {r : Report} {i : ℕ} (g : Turning s o₀ f₀ m₀ o f m r i) (more : i < entries_in s) (room : 8 * entries_in s ≤ length o₀) (x : List ℕ) (q : x ≡ take 10 (drop (10 * i) s)) where
  -- it does this, and is refused or accepted; o', r' and f' are what the loop makes of it
  module _ (z : Applied) (does : apply_of m x ≡ z) (o' : List ℕ) (wrote : o' ≡ overlaid o (8 * i) (reply_bytes z)) (f' : List ℕ) (noted : f' ≡ set f i (free_now z.machine)) (r' : Report) where
    does-it : apply_of m (take 10 (drop (10 * i) s)) ≡ z
    does-it = ap (apply_of m) (sym q) ∙ does

    stopped : accepted z.answer ≡ false → r' ≡ refused_at (number_of z.answer) r → Over s o₀ f₀ m₀ o' f' z.machine r'
    stopped h hr =
        let w = rw does-it at (stops s o₀ f₀ m₀ o f m r i g.going more room (ap (λ (y : Applied). accepted y.answer) does-it ∙ h)) in
        (ap (λ y. y.machine) w.0, hr ∙ ap (λ y. y.report) w.0, wrote ∙ w.1, noted ∙ w.2)

    went-on : accepted z.answer ≡ true → r' ≡ counted m x r → Turning s o₀ f₀ m₀ o' f' z.machine r' (i + 1)
    went-on h hr =
        let bytes : o' ≡ overlaid o (8 * i) (reply_bytes (apply_of m (take 10 (drop (10 * i) s)))) = wrote ∙ ap (λ (y : Applied). overlaid o (8 * i) (reply_bytes y)) (sym does-it) in
        let free : f' ≡ set f i (free_now (apply_of m (take 10 (drop (10 * i) s))).machine) = noted ∙ ap (λ (y : Applied). set f i (free_now y.machine)) (sym does-it) in
        let machine : z.machine ≡ (apply_of m (take 10 (drop (10 * i) s))).machine = ap (λ (y : Applied). y.machine) (sym does-it) in
        let report : r' ≡ counted m (take 10 (drop (10 * i) s)) r = hr ∙ ap (λ (k : List ℕ). counted m k r) q in
        record {
          going = rw (bytes, free, machine, report) (goes_on s o₀ f₀ m₀ o f m r i g.going more room (ap (λ (y : Applied). accepted y.answer) does-it ∙ h));
          long = subst (λ (y : Applied). Long y.machine) does (keeps_lengths m g.long g.sound x);
          sound = ap (λ (y : Applied). in_range y.machine) (sym does) ∙ keeps_ranges m g.long g.sound x;
        }

  -- bytes that are no entry
  pub unread : (y : Refusal) → entry_of x ≡ Err y → (o' : List ℕ) → o' ≡ overlaid o (8 * i) (reply_of (refusal_number y) 0 0) → (f' : List ℕ) → f' ≡ set f i (free_now m) → (r' : Report) → r' ≡ refused_at (refusal_number y) r → Over s o₀ f₀ m₀ o' f' m r'
  unread y is o' wrote f' noted r' hr = stopped (refused_by m 0 y) (unread_applied m g.sound x y is) o' wrote f' noted r' refl hr

  -- an entry e, whose turn left m' and was answered a
  module _ (e : Entry) (is : entry_of x ≡ Ok e) (m' : Machine) (a : Answer) (turned : Carries m e.task (ordered_of m e) m' a)
      (o' : List ℕ) (wrote : o' ≡ overlaid o (8 * i) (reply_of (number_of a) e.task.0 (value_of a))) (f' : List ℕ) (noted : f' ≡ set f i (free_now m')) (r' : Report) where
    abbrev done : Applied
    done = record { machine = m'; answer = a; task = e.task.0 }

    applied : apply_of m x ≡ done
    applied = order_applied m g.sound e x is ∙ rw (turned.0, turned.1) refl

    -- an accepted one has a task of its own
    own : accepted a ≡ true → min e.task.0 15 ≡ e.task.0
    own h = by (ordered_of m e) refl
      where
        by : (z : Effect) → ordered_of m e ≡ z → min e.task.0 15 ≡ e.task.0
        by (Err y) at = absurd (false≢true (ap (λ (z : Effect). accepted (answer_of z)) (sym at) ∙ ap accepted (sym turned.1) ∙ h))
        by (Ok d) at = its_own m g.sound e d at

    pub turned-back : accepted a ≡ false → r' ≡ refused_at (number_of a) r → Over s o₀ f₀ m₀ o' f' m' r'
    turned-back = stopped done applied o' wrote f' noted r'

    pub taken : accepted a ≡ true → r' ≡ counted_by r e.kind (task_in m.tasks (placed e.task)).phase (task_in m'.tasks (placed e.task)).phase → Turning s o₀ f₀ m₀ o' f' m' r' (i + 1)
    taken h hr =
        let read = entry_read x e is in
        let task : (y : Machine) → task_in y.tasks (placed e.task) ≡ task_of y x = λ (y : Machine). ap (λ (k : ℕ). get_or y.tasks k no_task) (own h ∙ read.task) in
        let counts : counted_by r e.kind (task_in m.tasks (placed e.task)).phase (task_in m'.tasks (placed e.task)).phase ≡ counted_by r (kind_of x) (task_of m x).phase (task_of m' x).phase =
        ap (λ (k : ℕ). counted_by r k (task_in m.tasks (placed e.task)).phase (task_in m'.tasks (placed e.task)).phase) read.kind
        ∙ ap (λ (t : Task). counted_by r (kind_of x) t.phase (task_in m'.tasks (placed e.task)).phase) (task m)
        ∙ ap (λ (t : Task). counted_by r (kind_of x) (task_of m x).phase t.phase) (task m') in
        went-on done applied o' wrote f' noted r' h
        (hr ∙ counts ∙ ap (λ (y : Applied). counted_by r (kind_of x) (task_of m x).phase (task_of y.machine x).phase) (sym applied)
        ∙ sym (counted_by_lem m x r (ap (λ (y : Applied). accepted y.answer) applied ∙ h)))
