-- Setup from bytes: the mark, N, P, K, a zero byte, then N values of 4 bytes.
use Rattle.std.specs.Prelude.{ℕ, ◌+◌, ◌-◌, ◌*◌, cond, not, List, eqb, ltb, length, get_or, replicate, Result, Ok, Err}
use Rattle.tallies.specs.Lists.{fill_to}
use Rattle.wire.specs.Bytes.{setup_mark, marked}
use Rattle.answers.specs.Numbers.{refusal_or_0}
use Rattle.tasks.specs.Records.{node_no, no_task, idle_owning}
use Rattle.tables.specs.Tables.{sizes_ok, value_given}
use Rattle.cells.specs.Types.{Machine, SetUp, Head, Refusal, Sizes, NotZero, WrongMark, TooShort}

-- all zero
abbrev pub blank_of : Machine
blank_of =
    record {
      n = 0;
      p = 0;
      k = 0;
      free = 0;
      cells = replicate 64 0;
      values = replicate 128 0;
      counts = replicate 128 0;
      tasks = replicate 16 no_task;
    }

-- cell i is at node i, whose value is the given one; task i owns node N+i; the first N+P nodes have a count of 1, and the other K-N-P are free; the
-- rest is zero
unfoldable pub fresh_of : ℕ → ℕ → ℕ → List ℕ → Machine
fresh_of n p k s =
    record {
      n = n;
      p = p;
      k = k;
      free = k - n - p;
      cells = fill_to (λ (i : ℕ). i) n (replicate 64 0);
      values = fill_to (value_given s) n (replicate 128 0);
      counts = fill_to (λ (i : ℕ). 1) (n + p) (replicate 128 0);
      tasks = fill_to (λ (i : ℕ). idle_owning (node_no (n + i))) p (replicate 16 no_task);
    }

abbrev pub refused_setup : Refusal → SetUp
refused_setup r = record { machine = blank_of; answer = Err r }

unfoldable pub setup_of : List ℕ → SetUp
setup_of s =
    cond (ltb (length s) 6) (refused_setup TooShort)  -- 20
    (cond (not (marked setup_mark s)) (refused_setup WrongMark)  -- 19
    (cond (not (eqb (get_or s 5 0) 0)) (refused_setup NotZero)  -- 15
    (cond (not (sizes_ok (get_or s 2 0) (get_or s 3 0) (get_or s 4 0))) (refused_setup Sizes)  -- 11
    (cond (ltb (length s) (6 + 4 * get_or s 2 0)) (refused_setup TooShort)  -- 20
    (record { machine = fresh_of (get_or s 2 0) (get_or s 3 0) (get_or s 4 0) s; answer = Ok (6 + 4 * get_or s 2 0) })))))

-- a setup without its machine: the sizes and the answer
abbrev pub head_of : SetUp → Head
head_of x = record { n = x.machine.n; p = x.machine.p; k = x.machine.k; answer = x.answer }

-- document 01's number of a setup's answer; an accepted one has none, here 0
abbrev pub setup_number : Result ℕ Refusal → ℕ
setup_number a = refusal_or_0 a

-- the bytes that a setup used
abbrev pub setup_bytes : Result ℕ Refusal → ℕ
setup_bytes (Ok used) = used
setup_bytes (Err r) = 0
