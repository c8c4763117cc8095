-- A schedule for each fault, from the setup `small`: one cell of value 7 at node 0, task 0 with node 1, task 1 with node 2, nodes 3 and 4 free.
-- A number at the right counts the entries up to there; what was done by then is said of the faulty bench.
use Rattle.std.specs.Prelude.{ℕ, List, [], ◌∷◌, ◌++◌, take, replicate}
use Rattle.tables.specs.Tables.{value_given}
use Rattle.figure1.specs.Histories.{State, after_all, start}
use Rattle.laws.specs.Bytes.{go, load, store, validate}
use Rattle.laws.specs.Small.{small, fresh}
use Rattle.faults.specs.Benches.{Bench}
use Rattle.laws.specs.Acts.{value_of_cell}
use Rattle.faults.specs.Histories.{afterwards, history}

-- figure 1 before any call
abbrev pub at_start : State
at_start = start (value_given small)

-- the cell's value after a schedule on a bench, and the value that figure 1 has after the schedule's history
abbrev pub cell_after : Bench → List (List ℕ) → ℕ
cell_after b es = value_of_cell (afterwards b fresh es) 0

abbrev pub cell_due : Bench → List (List ℕ) → ℕ
cell_due b es = (after_all at_start (history b fresh es)).cells.val 0

-- The printed order. A node comes back into use between task 1's copy and its check, so that the check passes with an old copy.
unfoldable pub old_copy : List (List ℕ)
old_copy =
    load 0 0 ∷ replicate 4 (go 0)  -- 5: task 0 has loaded 7 from node 0
    ++ store 0 0 9 ∷ go 0  -- 7: it has begun a store and written 9 to its own node 1
    ∷ load 1 0 ∷ go 1  -- 9: task 1 has begun a load and read the pointer, node 0
    ∷ replicate 2 (go 0)  -- 11: task 0's store took, and its own node is node 0
    ++ load 0 0 ∷ replicate 4 (go 0)  -- 16: it has loaded 9 from node 1
    ++ store 0 0 11  -- 17: it has begun the next store
    ∷ go 1  -- 18: task 1 has copied node 0, which still holds 7
    ∷ replicate 2 (go 0)  -- 20: task 0 has written 11 to node 0 and swapped: the cell is at node 0 again
    ++ replicate 2 (go 1)  -- 22: task 1 has raised the count and checked

-- what task 1 does with what it loaded: it begins a store, S1, S2, S3
unfoldable pub its_store : List (List ℕ)
its_store = store 1 0 8 ∷ replicate 3 (go 1)

-- Rereading the pointer. Task 1's link is stale, but S1 takes the new node for m, so that S2 finds the cell at m.
unfoldable pub stale_link : List (List ℕ)
stale_link =
    load 0 0 ∷ replicate 4 (go 0)  -- 5: task 0 has loaded 7
    ++ load 1 0 ∷ replicate 4 (go 1)  -- 10: task 1 has loaded 7
    ++ store 0 0 9 ∷ replicate 2 (go 0)  -- 13: task 0 has swapped: the cell is 9, at node 1, and nobody is in S
    ++ store 1 0 8 ∷ replicate 2 (go 1)  -- 16: task 1 has read the pointer again and swapped
    ++ go 1  -- 17: task 1 has done S3 and left node 1, which it holds but never counted, at 0
    ∷ replicate 3 (go 0)  -- 20: task 0 has done S3 and S5 and taken node 1 as its own
    ++ replicate 3 (go 1)  -- 23: task 1 has done S5, found node 2 busy and taken node 3

-- Comparing values. Task 1 stores the same value again, so that task 0 can't see the change.
unfoldable pub same_value : List (List ℕ)
same_value =
    load 0 0 ∷ replicate 4 (go 0)  -- 5: task 0 has loaded 7
    ++ load 1 0 ∷ replicate 4 (go 1)  -- 10: task 1 has loaded 7
    ++ store 1 0 7 ∷ replicate 2 (go 1)  -- 13: task 1 has swapped: the cell is 7, at node 2, and nobody is in S
    ++ store 0 0 8 ∷ replicate 2 (go 0)  -- 16: task 0 has compared 7 with 7 and swapped
    ++ go 1 ∷ go 0 ∷ []  -- 18: task 1 did S3, and task 0's S3 leaves 1

-- Comparing values in a validate. The first 13 entries are those of `same_value`; then task 0 asks whether its link is good.
unfoldable pub asks_after : List (List ℕ)
unfolding same_value
asks_after = take 13 same_value ++ validate 0 ∷ go 0 ∷ []  -- 15: task 0 has compared 7 with 7

-- A cursor that does not go round. One load of task 0 holds each node that task 1's stores swap out, so that task 1 looks for another: it takes node 3,
-- then node 4, and the third time it starts at node 4, the last one, which is in use.
unfoldable pub last_node : List (List ℕ)
last_node =
    load 0 0 ∷ replicate 2 (go 0)  -- 3: task 0 has begun a load and raised the count of node 0
    ++ load 1 0 ∷ replicate 4 (go 1)  -- 8: task 1 has loaded 7 from node 0
    ++ store 1 0 8 ∷ replicate 7 (go 1)  -- 16: it has swapped node 2 in, found nodes 1 and 2 busy and taken node 3
    ++ replicate 4 (go 0)  -- 20: task 0's check has turned it back, and it has raised the count of node 2
    ++ load 1 0 ∷ replicate 4 (go 1)  -- 25: task 1 has loaded 8 from node 2
    ++ store 1 0 9 ∷ replicate 6 (go 1)  -- 32: it has swapped node 3 in, found it busy and taken node 4
    ++ replicate 4 (go 0)  -- 36: task 0 was turned back again, and has raised the count of node 3
    ++ load 1 0 ∷ replicate 4 (go 1)  -- 41: task 1 has loaded 9 from node 3
    ++ store 1 0 10 ∷ replicate 4 (go 1)  -- 46: it has swapped node 4 in, and its cursor is at node 4
    ++ go 1 ∷ []  -- 47: it has found node 4 busy, and its cursor is at 5, which is K
