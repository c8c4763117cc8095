-- The pool engine as an engine of figure 1: every schedule from an accepted setup has a legal history and leaves the record that matches it,
-- and the replies that a run writes are those of the entries of such a history. Assumes nothing.
use Rattle.std.specs.Prelude.{Ok}
use Prim.Native.Nat.{ℕ, ◌*◌, ◌≤◌, ◌<◌}
use native.Mathlib.Omega.{arith}
use mathlib.Core.Path.{◌≡◌, refl, ap, ◌∙◌}
use mathlib.Core.Bool.{true, cond}
use mathlib.Core.List.{List, [], ◌∷◌, ◌++◌, append-nil, append_assoc}
use lib.ListN.{length, get_or, take, drop, length-drop}
use lib.Seq.{take-append-le, drop-append-le}
use Rattle.wire.specs.Bytes.{word_at}
use Rattle.tables.specs.Tables.{value_given}
use Rattle.cells.specs.Machine.{in_range}
use Rattle.cells.specs.Apply.{apply_of}
use Rattle.cells.specs.Setup.{setup_of}
use Rattle.runs.specs.Counts.{task_of}
use Rattle.entries.specs.Schedule.{entries_in, entries_of}
use Rattle.runs.specs.Run.{reply_bytes, replies_from, buffer_of}
use Rattle.figure1.specs.Figure1.{store, Result}
use Rattle.figure1.specs.Histories.{Event, begins, acts, ends, after_all, Follows, start}
use Rattle.figure1.specs.Calls.{Called}
use Rattle.figure1.specs.Engine.{Engine, run, history}
use Rattle.figure1.proofs.Lift.{lift, history-append}
use Rattle.figure1.proofs.Once.{called}
use Rattle.laws.specs.Types.{Machine}
use Rattle.laws.specs.Kept.{Kept}
use Rattle.laws.specs.Acts.{Matches, acts_from, finishes, each, events_in, events_of}
use Rattle.laws.specs.Schedules.{applied, tried, before, entry}
use Rattle.laws.proofs.Entries.{by_entry, stepped_by}
use Rattle.laws.proofs.Table.{entry-keeps}
use Rattle.laws.proofs.Start.{setup_kept, setup_matches}
use Rattle.laws.proofs.Reached.{schedule-keeps, applied-append}
use Rattle.laws.proofs.Ranges.{in_range_lem}
use Rattle.laws.proofs.Follows.{events-whole, entry-fits}
use Rattle.laws.proofs.Runs.{replies-length, reply_at, replies-tried}

-- the pool engine. The statements on Demands look only at its `next` and `events`; it stands here and not in specs/ because its last two fields
-- are the proofs that one entry keeps what holds and agrees with figure 1.
abbrev pub pool : Engine
pool = record {
  Record = Machine;
  Entry = List ℕ;
  next = λ m e. (apply_of m e).machine;
  events = events_of;
  Kept = Kept;
  Matches = Matches;
  keeps = entry-keeps;
  agrees = λ m e a. entry-fits m e a;
}

pub run-applied : (es : List (List ℕ)) (m : Machine) → run pool m es ≡ applied m es
unfolding applied
run-applied [] m = refl
run-applied (e ∷ es) m = run-applied es (apply_of m e).machine

-- every schedule from an accepted setup
module _ (s : List ℕ) (used : ℕ) (ok : (setup_of s).answer ≡ Ok used) (es : List (List ℕ)) where
  pub follows : Follows (start (value_given s)) (history pool (setup_of s).machine es)
  follows = (lift pool es (setup_of s).machine (start (value_given s)) (setup_kept s used ok) (setup_matches s used ok)).0

  pub matches : Matches (applied (setup_of s).machine es) (after_all (start (value_given s)) (history pool (setup_of s).machine es))
  matches = rw run-applied at (lift pool es (setup_of s).machine (start (value_given s)) (setup_kept s used ok) (setup_matches s used ok)).1

-- an answer that finishes a call is the last event of its entry: that call's end, with that result
pub answer-ends : (m : Machine) (e : List ℕ) (x : Result) → finishes (apply_of m e).answer ≡ x ∷ [] → (us : List Event) × (events_of m e ≡ us ++ ends (get_or e 2 0) x ∷ [])
unfolding events_of
answer-ends m e x =
    by_entry m e (λ a. finishes a.answer ≡ x ∷ [] → (us : List Event) × (events_in acts_from a.answer m a.machine e ≡ us ++ ends (get_or e 2 0) x ∷ []))
    (λ i r k. none) (λ k h. none) (λ k h. none)
    (λ k q. let us = begins (get_or e 2 0) (store (get_or e 4 0) (word_at e 6)) ∷ acts (get_or e 2 0) ∷ [] in
    (us, events-whole acts_from m m e k.kind ∙ ap (λ (l : List Result). us ++ each (ends (get_or e 2 0)) l) q))
    (λ k. none) (λ k. none)
    (λ d s q. (cond (acts_from (task_of m e).phase (task_of (stepped_by m e d).machine e).phase) (acts (get_or e 2 0) ∷ []) [], rw (s.kind, q)))
  where
    none : {A : Type 0} → ◌≡◌ {A = List Result} [] (x ∷ []) → A
    none q = absurd (omega (arith, ap length q))

-- so the call that an answer finishes began in the schedule's history or at this entry, acted once since, and was given that result by figure 1
pub answered : (s : List ℕ) (used : ℕ) → (setup_of s).answer ≡ Ok used → (es : List (List ℕ)) (e : List ℕ) (x : Result)
    → finishes (apply_of (applied (setup_of s).machine es) e).answer ≡ x ∷ []
    → (us : List Event) × (events_of (applied (setup_of s).machine es) e ≡ us ++ ends (get_or e 2 0) x ∷ [])
    × Called (get_or e 2 0) x (start (value_given s)) (history pool (setup_of s).machine es ++ us)
answered s used ok es e x q =
    let m = (setup_of s).machine in
    let d = answer-ends (applied m es) e x q in
    let legal = simp (history-append pool es (e ∷ []) m, run-applied es m, append-nil, d.1, ← append_assoc) at (follows s used ok (es ++ e ∷ [])) in
    (d.0, d.1, called (get_or e 2 0) x (start (value_given s)) (history pool m es ++ d.0) [] refl legal)

-- a run that tries its entries writes their replies, eight bytes each
pub reply_bytes_lem : (m : Machine) (b out : List ℕ) (i : ℕ) → in_range m ≡ true → length b ≤ 65530 → 8 * entries_in b ≤ length out → i < length (tried m (entries_of b))
    → take 8 (drop (8 * i) (buffer_of m b out)) ≡ reply_bytes (apply_of (applied m (take i (tried m (entries_of b)))) (get_or (tried m (entries_of b)) i []))
unfolding buffer_of
reply_bytes_lem m b out i r h k l =
    let R = replies_from m (entries_of b) in
    let n = replies-length (entries_of b) m in
    rw (replies-tried m b (length out) r h k, drop-append-le (8 * i) R _ (omega arith), take-append-le 8 (drop (8 * i) R) _ (rw length-drop (omega arith))) (reply_at (entries_of b) m i l)

-- the i-th reply is that entry's, at the record after the entries before it, and its events stand at the end of a legal history
module _ (s : List ℕ) (used : ℕ) (ok : (setup_of s).answer ≡ Ok used) (es : List (List ℕ)) (b out : List ℕ) (h : length b ≤ 65530) (k : 8 * entries_in b ≤ length out) where
  abbrev m : Machine
  m = (setup_of s).machine

  pub replies_follow : (i : ℕ) → i < length (tried (applied m es) (entries_of b))
      → (take 8 (drop (8 * i) (buffer_of (applied m es) b out)) ≡ reply_bytes (apply_of (applied m (before m es b i)) (entry m es b i)))
      × Follows (start (value_given s)) (history pool m (before m es b i) ++ events_of (applied m (before m es b i)) (entry m es b i))
  replies_follow i l =
      let T = tried (applied m es) (entries_of b) in
      let legal = follows s used ok (before m es b i ++ entry m es b i ∷ []) in (
        rw (applied-append es (take i T) m) (reply_bytes_lem (applied m es) b out i (in_range_lem (applied m es) (schedule-keeps es m (setup_kept s used ok))) h k l),
        simp (history-append pool (before m es b i) (entry m es b i ∷ []) m, run-applied (before m es b i) m, append-nil) at legal,
      )
