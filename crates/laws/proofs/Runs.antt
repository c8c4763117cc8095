-- What a run does, whatever the record, the bytes and the room: it is refused before any entry, or it tries its entries. Its replies, one
-- for each entry tried, what it leaves in the reply buffer, and numbers that it never reports. Assumes nothing.
use Prim.Native.Nat.{ℕ, zero, suc, ◌+◌, ◌-◌, ◌*◌, ◌≤◌, ◌<◌}
use native.Mathlib.Omega.{arith}
use native.Mathlib.Decide.{dec_le}
use mathlib.Core.Path.{◌≡◌, refl, ap, ◌∙◌}
use mathlib.Core.Bool.{Bool, true, false, cond}
use mathlib.Core.List.{List, [], ◌∷◌, ◌++◌}
use mathlib.Core.Logic.{◌≢◌}
use lib.ListN.{length, get_or, take, drop, length-append, length-drop}
use lib.Seq.{drop-append-add, get_or-append-add, get_or-drop}
use borrow.Author.Tests.{lt-ltb, le-ltb, le-leb, lt-leb}
use Rattle.tallies.proofs.Lists.{either, by_test}
use Rattle.answers.specs.Numbers.{number_of}
use Rattle.answers.proofs.Numbers.{no_18}
use Rattle.cells.specs.Machine.{in_range}
use Rattle.cells.specs.Apply.{apply_of}
use Rattle.runs.specs.Counts.{accepted}
use Rattle.entries.specs.Schedule.{entries_in, cut, entries_of}
use Rattle.runs.specs.Run.{reply_bytes, replies_from, report_of, counted, refused_at, ran_from, untried_of, ran_of, replies_of, buffer_of, noted_of}
use Rattle.laws.specs.Types.{Refusal, NoRoom, Damaged, TooLong, Machine, Report, Ran}
use Rattle.laws.specs.Schedules.{applied, tried}

pub data Run (m : Machine) (s : List ℕ) (room : ℕ) : Ran → List ℕ → Type 0 where
  damaged : in_range m ≡ false → Run m s room (untried_of m Damaged) []
  too_long : in_range m ≡ true → 65530 < length s → Run m s room (untried_of m TooLong) []
  no_room : in_range m ≡ true → length s ≤ 65530 → room < 8 * entries_in s → Run m s room (untried_of m NoRoom) []
  tries : in_range m ≡ true → length s ≤ 65530 → 8 * entries_in s ≤ room → Run m s room (ran_from m (report_of 0) (entries_of s)) (replies_from m (entries_of s))

pub run : (m : Machine) (s : List ℕ) (room : ℕ) → Run m s room (ran_of m s room) (replies_of m s room)
unfolding ran_of replies_of
run m s room = go (in_range m) refl
  where
    go : (b : Bool) → in_range m ≡ b → Run m s room (ran_of m s room) (replies_of m s room)
    go false q = rw q (damaged q)
    go true q =
        elim (dec_le (length s) 65530) [
          | no h ↦ rw (q, lt-ltb 65530 (length s) (omega arith), lt-leb (length s) 65530 (omega arith)) (too_long q (omega arith))
          | yes h ↦ elim (dec_le (8 * entries_in s) room) [
            | no k ↦ rw (q, le-ltb 65530 (length s) h, le-leb (length s) 65530 h, lt-ltb room (8 * entries_in s) (omega arith), lt-leb (8 * entries_in s) room (omega arith)) (no_room q h (omega arith))
            | yes k ↦ rw (q, le-ltb 65530 (length s) h, le-leb (length s) 65530 h, le-ltb room (8 * entries_in s) k, le-leb (8 * entries_in s) room k) (tries q h k)
          ]
        ]

ran-applied : (es : List (List ℕ)) (m : Machine) (r : Report) → (ran_from m r es).machine ≡ applied m (tried m es)
unfolding ran_from applied tried
ran-applied [] m r = refl
ran-applied (e ∷ es) m r =
    let m' = (apply_of m e).machine in
    let stop : Ran = record { machine = m'; report = refused_at (number_of (apply_of m e).answer) r } in
    either (λ b. (cond b (ran_from m' (counted m e r) es) stop).machine ≡ applied m' (cond b (tried m' es) [])) (accepted (apply_of m e).answer)
    (λ q. ran-applied es m' (counted m e r)) (λ q. refl)

-- refused before any entry: the record, both buffers whole and five zeros, with the number
module _ (m : Machine) (s out frees : List ℕ) where
  abbrev Untried : Refusal → Type 0
  Untried r = (ran_of m s (length out) ≡ untried_of m r) × (buffer_of m s out ≡ out) × (noted_of m s (length out) frees ≡ frees)

  pub run_damaged : in_range m ≡ false → Untried Damaged
  unfolding ran_of replies_of buffer_of noted_of
  run_damaged q = (rw q, rw q, rw q)

  pub run_long : in_range m ≡ true → 65530 < length s → Untried TooLong
  unfolding ran_of replies_of buffer_of noted_of
  run_long q h = (rw (q, lt-ltb 65530 (length s) h), rw (q, lt-leb (length s) 65530 h), rw (q, lt-leb (length s) 65530 h))

  pub run_no_room : in_range m ≡ true → length s ≤ 65530 → length out < 8 * entries_in s → Untried NoRoom
  unfolding ran_of replies_of buffer_of noted_of
  run_no_room q h k = (
    rw (q, le-ltb 65530 (length s) h, lt-ltb (length out) (8 * entries_in s) k),
    rw (q, le-leb (length s) 65530 h, lt-leb (8 * entries_in s) (length out) k),
    rw (q, le-leb (length s) 65530 h, lt-leb (8 * entries_in s) (length out) k),
  )

-- else the entries are tried
module _ (m : Machine) (s : List ℕ) (room : ℕ) (q : in_range m ≡ true) (h : length s ≤ 65530) (k : 8 * entries_in s ≤ room) where
  pub run_tries : (ran_of m s room).machine ≡ applied m (tried m (entries_of s))
  unfolding ran_of
  run_tries = rw (q, le-ltb 65530 (length s) h, le-ltb room (8 * entries_in s) k) (ran-applied (entries_of s) m (report_of 0))

  pub replies-tried : replies_of m s room ≡ replies_from m (entries_of s)
  unfolding replies_of
  replies-tried = rw (q, le-leb (length s) 65530 h, le-leb (8 * entries_in s) room k)

-- what holds of the record as it was, and of the record after the entries that the run tries, holds of the record after the run
pub by_run : (R : Machine → Type 0) (m : Machine) (s : List ℕ) (room : ℕ) → R m → R (applied m (tried m (entries_of s))) → R (ran_of m s room).machine
by_run R m s room same after = go (run m s room)
  where
    go : {a : Ran} {l : List ℕ} → Run m s room a l → R a.machine
    go (damaged q) = same
    go (too_long q h) = same
    go (no_room q h k) = same
    go (tries q h k) = rw (ran-applied (entries_of s) m (report_of 0)) after

-- eight bytes a reply
pub replies-length : (es : List (List ℕ)) (m : Machine) → length (replies_from m es) ≡ 8 * length (tried m es)
unfolding replies_from tried
replies-length [] m = refl
replies-length (e ∷ es) m =
    let m' = (apply_of m e).machine in
    either (λ b. length (reply_bytes (apply_of m e) ++ cond b (replies_from m' es) []) ≡ 8 * suc (length (cond b (tried m' es) []))) (accepted (apply_of m e).answer)
    (λ q. omega (arith, replies-length es m')) (λ q. refl)

tried-length : (es : List (List ℕ)) (m : Machine) → length (tried m es) ≤ length es
unfolding tried
tried-length [] m = omega arith
tried-length (e ∷ es) m =
    let m' = (apply_of m e).machine in
    either (λ b. suc (length (cond b (tried m' es) [])) ≤ suc (length es)) (accepted (apply_of m e).answer) (λ q. omega (arith, tried-length es m')) (λ q. omega arith)

cut-length : (n : ℕ) (s : List ℕ) → length (cut n s) ≡ n
unfolding cut
cut-length zero s = refl
cut-length (suc n) s = ap suc (cut-length n (drop 10 s))

replies_fit : (m : Machine) (s : List ℕ) (room : ℕ) → length (replies_of m s room) ≤ room
replies_fit m s room = go (run m s room)
  where
    go : {a : Ran} {l : List ℕ} → Run m s room a l → length l ≤ room
    go (damaged q) = omega arith
    go (too_long q h) = omega arith
    go (no_room q h k) = omega arith
    go (tries q h k) = omega (arith, replies-length (entries_of s) m, tried-length (entries_of s) m, cut-length (entries_in s) s)

-- the buffer keeps its length, and every byte at or after the last reply
pub buffer_length : (m : Machine) (s out : List ℕ) → length (buffer_of m s out) ≡ length out
unfolding buffer_of
buffer_length m s out = simp (length-append, length-drop) (omega (arith, replies_fit m s (length out)))

pub buffer_past : (m : Machine) (s out : List ℕ) (i : ℕ) → length (replies_of m s (length out)) ≤ i → get_or (buffer_of m s out) i 0 ≡ get_or out i 0
unfolding buffer_of
buffer_past m s out i h =
    let l = replies_of m s (length out) in
    let e : i ≡ length l + (i - length l) = omega arith in
    rw e (get_or-append-add l (drop (length l) out) (i - length l) 0 ∙ get_or-drop (length l) out (i - length l) 0)

-- the i-th reply is that of the i-th entry tried, at the record after the entries before it
pub reply_at : (es : List (List ℕ)) (m : Machine) (i : ℕ) → i < length (tried m es)
    → take 8 (drop (8 * i) (replies_from m es)) ≡ reply_bytes (apply_of (applied m (take i (tried m es))) (get_or (tried m es) i []))
unfolding replies_from tried applied
reply_at [] m i h = absurd (omega arith)
reply_at (e ∷ es) m zero h = refl
reply_at (e ∷ es) m (suc i) h =
    let m' = (apply_of m e).machine in
    let es' : Bool → List (List ℕ) = λ b. cond b (tried m' es) [] in
    let e₈ : 8 * suc i ≡ 8 + 8 * i = omega arith in
    rw (e₈, drop-append-add (reply_bytes (apply_of m e)) _ (8 * i)) (
    either (λ b. suc i < suc (length (es' b)) → take 8 (drop (8 * i) (cond b (replies_from m' es) [])) ≡ reply_bytes (apply_of (applied m' (take i (es' b))) (get_or (es' b) i [])))
    (accepted (apply_of m e).answer) (λ q k. reply_at es m' i (omega arith)) (λ q k. absurd (omega arith)) h)

-- a number that no entry is answered with, in records of which `In` holds and goes on holding
module _ (number : ℕ) (In : Machine → Type 0) (keeps : (m : Machine) (e : List ℕ) → In m → In (apply_of m e).machine) (never : (m : Machine) (e : List ℕ) → In m → number_of (apply_of m e).answer ≢ number) where
  entries-never : (es : List (List ℕ)) (m : Machine) (r : Report) → In m → r.refusal ≢ number → (ran_from m r es).report.refusal ≢ number
  unfolding ran_from
  entries-never [] m r i ne = ne
  entries-never (e ∷ es) m r i ne =
      by_test (λ (a : Ran). a.report.refusal ≢ number) (accepted (apply_of m e).answer) _ _
      (λ q. entries-never es (apply_of m e).machine (counted m e r) (keeps m e i) ne) (λ q. never m e i)

  -- no run reports it, but for what a run is refused with before any entry
  pub run-never : (m : Machine) (s : List ℕ) (room : ℕ) → In m → (in_range m ≡ false → 22 ≢ number) → 23 ≢ number → 21 ≢ number → 0 ≢ number → (ran_of m s room).report.refusal ≢ number
  run-never m s room i broken long short none = go (run m s room)
    where
      go : {a : Ran} {l : List ℕ} → Run m s room a l → a.report.refusal ≢ number
      go (damaged q) = broken q
      go (too_long q h) = long
      go (no_room q h k) = short
      go (tries q h k) = entries-never (entries_of s) m (report_of 0) i none

-- no run reports 18, whatever the record
pub run_no_18 : (m : Machine) (s : List ℕ) (room : ℕ) → (ran_of m s room).report.refusal ≢ 18
run_no_18 m s room =
    run-never 18 (λ m. Unit {0}) (λ m e i. tt) (λ m e i. no_18 (apply_of m e).answer) m s room tt
    (λ q. omega arith) (omega arith) (omega arith) (omega arith)
