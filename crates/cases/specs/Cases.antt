-- Document 01's schedules by hand that are marked P, in its order and numbering, as rows of one table; then rows for document 02's requests.
use Rattle.std.specs.Prelude.{ℕ, List, [], ◌∷◌, ◌++◌, replicate}
use Rattle.wire.specs.Bytes.{entry_mark, reply_mark}
use Rattle.texts.specs.Line.{comma, newline, joined}
use Rattle.laws.specs.Bytes.{setup, entry, go, load, store, release, validate}
use Rattle.laws.specs.Small.{small}
use Rattle.faults.specs.Benches.{mended, printed}
use Rattle.cases.specs.Rows.{Row, sets, enters, runs, gives, counts, frees, imports, exports, moves, loads, stores, validates, asking, spelt}

-- n values of 7
abbrev pub sevens : ℕ → List ℕ
sevens n = replicate n 7

-- two cells with 7 and 8, one task, four nodes
abbrev pub two : List ℕ
two = setup 2 1 4 (7 ∷ 8 ∷ [])

unfoldable pub cases : List Row
cases =
    -- 1. 64 cells and 16 tasks are taken with 96 nodes, the fewest that N+2P allows, and use 6+4*64 bytes; one node less is refused
    sets (setup 64 16 96 (sevens 64)) 0 262 ∷
    sets (setup 64 16 95 (sevens 64)) 11 0 ∷
    -- 2. 128 nodes are taken, one more is refused; so are no cell, a cell too many, no task and a task too many, the other two sizes being good
    sets (setup 64 16 128 (sevens 64)) 0 262 ∷
    sets (setup 64 16 129 (sevens 64)) 11 0 ∷
    sets (setup 0 16 128 []) 11 0 ∷
    sets (setup 65 16 128 (sevens 65)) 11 0 ∷
    sets (setup 64 0 128 (sevens 64)) 11 0 ∷
    sets (setup 64 17 128 (sevens 64)) 11 0 ∷
    -- 3. one task loads 7 and stores 9
    runs (setup 1 1 3 (7 ∷ [])) (loads 0 0 7 ++ stores 0 0 9) (9 ∷ 0 ∷ 1 ∷ 4 ∷ 0 ∷ 1 ∷ []) ∷
    -- 5. a fresh task has no step to make and no link to release; its store, as item 5 has it, is lost at once
    enters mended small (gives (go 0) 17 0 0 ∷ []) ∷
    enters mended small (gives (store 0 0 9) 3 0 0 ∷ []) ∷
    enters mended small (gives (release 0) 16 0 0 ∷ []) ∷
    -- 6. a task linked to cell 0 of 2: its store to cell 1 is lost at once, as item 5 has it, and there is no cell 2
    enters mended two (loads 0 0 7 ++ gives (store 0 1 9) 3 0 0 ∷ gives (store 0 2 9) 14 0 0 ∷ []) ∷
    -- 9. task 0 begins a load and does L1; task 1 loads, stores 9, loads and stores 11, each store ending at S3; task 0 raises, checks, copies 11
    enters mended small
    (gives (load 0 0) 0 0 0 ∷ moves 0 1
    ++ loads 1 0 7 ++ stores 1 0 9 ++ loads 1 0 9 ++ stores 1 0 11
    ++ moves 0 2 ++ gives (go 0) 1 0 11 ∷ []) ∷
    -- in the printed order, with task 0 stalled after its copy: it raises, and the check passes and gives 7
    enters printed small
    (gives (load 0 0) 0 0 0 ∷ moves 0 2
    ++ loads 1 0 7 ++ stores 1 0 9 ++ loads 1 0 9 ++ stores 1 0 11
    ++ moves 0 1 ++ gives (go 0) 1 0 7 ∷ []) ∷
    -- 10. both load 7; task 1 stores 9 in seven steps, and task 0's store is lost
    enters mended small
    (loads 0 0 7 ++ loads 1 0 7 ++ counts (3 ∷ 1 ∷ 1 ∷ 0 ∷ 0 ∷ [])
    ∷ gives (store 1 0 9) 0 1 0 ∷ moves 1 3 ++ counts (2 ∷ 1 ∷ 1 ∷ 0 ∷ 0 ∷ [])  -- S1 to S3
    ∷ moves 1 1 ++ counts (1 ∷ 1 ∷ 1 ∷ 0 ∷ 0 ∷ [])  -- S5
    ∷ moves 1 2 ++ gives (go 1) 2 1 0 ∷ counts (1 ∷ 1 ∷ 1 ∷ 1 ∷ 0 ∷ [])  -- S6: nodes 1 and 2 are busy, node 3 is taken
    ∷ gives (store 0 0 8) 0 0 0 ∷ moves 0 2 ++ gives (go 0) 3 0 0 ∷ counts (0 ∷ 1 ∷ 1 ∷ 1 ∷ 0 ∷ []) ∷ []) ∷  -- S1, S2, S7
    -- 11. task 0 does L1; task 1 loads and stores 9; task 0 turns back once and gives 9 after 7 more steps
    runs small (gives (load 0 0) 0 0 0 ∷ moves 0 1 ++ loads 1 0 7 ++ stores 1 0 9 ++ moves 0 6 ++ gives (go 0) 1 0 9 ∷ []) (18 ∷ 0 ∷ 2 ∷ 12 ∷ 1 ∷ 1 ∷ []) ∷
    -- 12. task 0 loads and releases, and the counts are again those of the fresh record
    enters mended small
    (counts (1 ∷ 1 ∷ 1 ∷ 0 ∷ 0 ∷ [])
    ∷ loads 0 0 7 ++ gives (release 0) 0 0 0 ∷ gives (go 0) 4 0 0 ∷ counts (1 ∷ 1 ∷ 1 ∷ 0 ∷ 0 ∷ []) ∷ []) ∷
    -- Item 1. task 0 loads and validates, good; the counts and the link stay, so that it validates again, good, and its store takes
    enters mended small
    (loads 0 0 7 ++ counts (2 ∷ 1 ∷ 1 ∷ 0 ∷ 0 ∷ [])
    ∷ validates 0 5 ++ counts (2 ∷ 1 ∷ 1 ∷ 0 ∷ 0 ∷ [])
    ∷ validates 0 5 ++ stores 0 0 9 ++ counts (1 ∷ 1 ∷ 1 ∷ 0 ∷ 0 ∷ []) ∷ []) ∷
    -- a validate's entries are accepted, and are no loads and no load steps
    runs small (loads 0 0 7 ++ validates 0 5) (7 ∷ 0 ∷ 1 ∷ 4 ∷ 0 ∷ 0 ∷ []) ∷
    -- both load 7; task 0's validate has begun when task 1 swaps in a 7 of its own (S1, S2): gone, though the value is the same; the stale link
    -- stays, validates gone again, and its store is lost
    enters mended small
    (loads 0 0 7 ++ loads 1 0 7 ++ validates 0 5
    ++ gives (validate 0) 0 0 0 ∷ gives (store 1 0 7) 0 1 0 ∷ moves 1 2 ++ gives (go 0) 6 0 0
    ∷ counts (3 ∷ 1 ∷ 1 ∷ 0 ∷ 0 ∷ [])
    ∷ validates 0 6 ++ counts (3 ∷ 1 ∷ 1 ∷ 0 ∷ 0 ∷ [])
    ∷ gives (store 0 0 8) 0 0 0 ∷ moves 0 2 ++ gives (go 0) 3 0 0 ∷ counts (2 ∷ 1 ∷ 1 ∷ 0 ∷ 0 ∷ []) ∷ []) ∷
    -- a stale link is released as any other
    enters mended small
    (loads 0 0 7 ++ loads 1 0 7 ++ gives (store 1 0 9) 0 1 0 ∷ moves 1 6 ++ gives (go 1) 2 1 0
    ∷ validates 0 6 ++ gives (release 0) 0 0 0 ∷ gives (go 0) 4 0 0 ∷ []) ∷
    -- validate is refused while idle, and while a load, a store or a release runs
    enters mended small (gives (validate 0) 16 0 0 ∷ gives (load 0 0) 0 0 0 ∷ gives (validate 0) 16 0 0 ∷ []) ∷
    enters mended small (loads 0 0 7 ++ gives (store 0 0 9) 0 0 0 ∷ gives (validate 0) 16 0 0 ∷ []) ∷
    enters mended small (loads 0 0 7 ++ gives (release 0) 0 0 0 ∷ gives (validate 0) 16 0 0 ∷ []) ∷
    -- while a validate runs no call can begin; once it has ended there is no step to make
    enters mended small
    (loads 0 0 7 ++ gives (validate 0) 0 0 0
    ∷ gives (validate 0) 16 0 0 ∷ gives (load 0 0) 16 0 0 ∷ gives (store 0 0 9) 16 0 0 ∷ gives (release 0) 16 0 0
    ∷ gives (go 0) 5 0 0 ∷ gives (go 0) 17 0 0 ∷ []) ∷
    -- a task that isn't there; kind 5; a cell, a value and a sixth byte that are not zero
    enters mended small
    (loads 0 0 7 ++ gives (validate 2) 12 2 0 ∷ gives (entry 0 5 0 0) 13 0 0
    ∷ gives (entry 0 4 1 0) 15 0 0 ∷ gives (entry 0 4 0 1) 15 0 0 ∷ gives (69 ∷ 78 ∷ 0 ∷ 4 ∷ 0 ∷ 1 ∷ 0 ∷ 0 ∷ 0 ∷ 0 ∷ []) 15 0 0 ∷ []) ∷
    -- Item 2. both load 7; task 1's S3 leaves node 0 at 2, so that S5 is next; task 0 releases, and the count is 1 before S5 is made. Document 01
    -- looked at the count only here, and ended the store with node 0. Now it goes on: S5 leaves 0, nodes 1 and 2 are busy, and node 3 is taken
    enters mended small
    (loads 0 0 7 ++ loads 1 0 7 ++ gives (store 1 0 9) 0 1 0 ∷ moves 1 3 ++ counts (2 ∷ 1 ∷ 1 ∷ 0 ∷ 0 ∷ [])
    ∷ gives (release 0) 0 0 0 ∷ gives (go 0) 4 0 0 ∷ counts (1 ∷ 1 ∷ 1 ∷ 0 ∷ 0 ∷ [])
    ∷ moves 1 1 ++ counts (0 ∷ 1 ∷ 1 ∷ 0 ∷ 0 ∷ [])
    ∷ moves 1 2 ++ gives (go 1) 2 1 0 ∷ counts (0 ∷ 1 ∷ 1 ∷ 1 ∷ 0 ∷ []) ∷ []) ∷
    -- where task 0 releases before S3, S3 leaves 1 and the store ends there, with node 0 as its own
    enters mended small
    (loads 0 0 7 ++ loads 1 0 7 ++ gives (store 1 0 9) 0 1 0 ∷ moves 1 2 ++ counts (3 ∷ 1 ∷ 1 ∷ 0 ∷ 0 ∷ [])
    ∷ gives (release 0) 0 0 0 ∷ gives (go 0) 4 0 0 ∷ gives (go 1) 2 1 0 ∷ counts (1 ∷ 1 ∷ 1 ∷ 0 ∷ 0 ∷ []) ∷ []) ∷
    -- and the other way round: task 0, which has done L1, raises the count straight after S3. The store has ended by then, where document 01 looked
    -- at the count after the raise, and went on
    enters mended small
    (gives (load 0 0) 0 0 0 ∷ moves 0 1 ++ loads 1 0 7 ++ gives (store 1 0 9) 0 1 0 ∷ moves 1 2 ++ counts (2 ∷ 1 ∷ 1 ∷ 0 ∷ 0 ∷ [])
    ∷ gives (go 1) 2 1 0 ∷ counts (1 ∷ 1 ∷ 1 ∷ 0 ∷ 0 ∷ [])
    ∷ moves 0 1 ++ counts (2 ∷ 1 ∷ 1 ∷ 0 ∷ 0 ∷ []) ∷ gives (go 1) 17 1 0 ∷ []) ∷
    -- Item 3. case 10 again, with the free-nodes question after every entry: two are free until S6 takes node 3, and again once S7 leaves node 0
    enters mended small
    (frees 2
    ∷ asking 2 (loads 0 0 7 ++ loads 1 0 7 ++ gives (store 1 0 9) 0 1 0 ∷ moves 1 6)
    ++ asking 1 (gives (go 1) 2 1 0 ∷ gives (store 0 0 8) 0 0 0 ∷ moves 0 2)
    ++ asking 2 (gives (go 0) 3 0 0 ∷ gives (go 0) 17 0 0 ∷ [])) ∷
    -- a load raises a node that is free: task 2 has done L1 when tasks 0 and 1 do case 10, which leaves node 0 free; its L2 takes node 0 into use,
    -- and its L5, which the check sends it to, gives node 0 up
    enters mended (setup 1 3 7 (7 ∷ []))
    (gives (load 2 0) 0 2 0 ∷ moves 2 1 ++ loads 0 0 7 ++ loads 1 0 7 ++ gives (store 1 0 9) 0 1 0 ∷ moves 1 7 ++ gives (go 1) 2 1 0
    ∷ gives (store 0 0 8) 0 0 0 ∷ moves 0 2 ++ gives (go 0) 3 0 0 ∷ counts (0 ∷ 1 ∷ 1 ∷ 1 ∷ 1 ∷ 0 ∷ 0 ∷ []) ∷ frees 3
    ∷ moves 2 1 ++ counts (1 ∷ 1 ∷ 1 ∷ 1 ∷ 1 ∷ 0 ∷ 0 ∷ []) ∷ frees 2
    ∷ moves 2 1 ++ frees 2
    ∷ moves 2 1 ++ counts (0 ∷ 1 ∷ 1 ∷ 1 ∷ 1 ∷ 0 ∷ 0 ∷ []) ∷ frees 3 ∷ []) ∷
    -- Item 4. a line becomes its entry's ten bytes, and what stands behind them in the buffer stays; the largest numbers; and no line at all
    imports 12 (joined (spelt (1 ∷ [])) (spelt (2 ∷ [])) (spelt (0 ∷ [])) (spelt (9 ∷ []))) 0 (store 1 0 9) ∷
    imports 10 (joined (spelt (2 ∷ 5 ∷ 5 ∷ [])) (spelt (2 ∷ 5 ∷ 4 ∷ [])) (spelt (2 ∷ 5 ∷ 3 ∷ [])) (spelt (4 ∷ 2 ∷ 9 ∷ 4 ∷ 9 ∷ 6 ∷ 7 ∷ 2 ∷ 9 ∷ 5 ∷ []))) 0
    (entry_mark ++ 255 ∷ 254 ∷ 253 ∷ 0 ∷ 255 ∷ 255 ∷ 255 ∷ 255 ∷ []) ∷
    imports 1 [] 0 [] ∷
    -- a number too large is 31, by one or by many digits; form goes before size in a line, and an earlier line before a later one
    imports 0 (joined (spelt (2 ∷ 5 ∷ 6 ∷ [])) (spelt (0 ∷ [])) (spelt (0 ∷ [])) (spelt (0 ∷ []))) 31 [] ∷
    imports 0 (joined (spelt (0 ∷ [])) (spelt (0 ∷ [])) (spelt (0 ∷ [])) (spelt (4 ∷ 2 ∷ 9 ∷ 4 ∷ 9 ∷ 6 ∷ 7 ∷ 2 ∷ 9 ∷ 6 ∷ []))) 31 [] ∷
    imports 0 (joined (spelt (0 ∷ [])) (spelt (0 ∷ [])) (spelt (replicate 50 1)) (spelt (0 ∷ []))) 31 [] ∷
    imports 0 (joined (spelt (2 ∷ 5 ∷ 6 ∷ [])) (spelt (0 ∷ [])) (spelt (0 ∷ [])) (spelt (0 ∷ 0 ∷ []))) 30 [] ∷
    imports 0 (joined (spelt (2 ∷ 5 ∷ 6 ∷ [])) (spelt (0 ∷ [])) (spelt (0 ∷ [])) (spelt (0 ∷ [])) ++ newline ∷ []) 31 [] ∷
    imports 0 (newline ∷ joined (spelt (2 ∷ 5 ∷ 6 ∷ [])) (spelt (0 ∷ [])) (spelt (0 ∷ [])) (spelt (0 ∷ []))) 30 [] ∷
    -- 30: no number, a fifth one, a space, a last line that is not closed, be a number in it too large
    imports 0 (joined (spelt (0 ∷ [])) [] (spelt (0 ∷ [])) (spelt (0 ∷ []))) 30 [] ∷
    imports 0 (joined (spelt (0 ∷ [])) (spelt (0 ∷ [])) (spelt (0 ∷ [])) (spelt (0 ∷ []) ++ comma ∷ spelt (0 ∷ []))) 30 [] ∷
    imports 0 (joined (0x20 ∷ spelt (0 ∷ [])) (spelt (0 ∷ [])) (spelt (0 ∷ [])) (spelt (0 ∷ []))) 30 [] ∷
    imports 0 (spelt (2 ∷ 5 ∷ 6 ∷ []) ++ comma ∷ spelt (0 ∷ []) ++ comma ∷ spelt (0 ∷ []) ++ comma ∷ spelt (0 ∷ [])) 30 [] ∷
    -- 32 comes last, and writes nothing
    imports 9 (joined (spelt (1 ∷ [])) (spelt (2 ∷ [])) (spelt (0 ∷ [])) (spelt (9 ∷ []))) 32 [] ∷
    -- an entry becomes its line; a kind that there is not does too
    exports 9 (store 1 0 9) 0 (joined (spelt (1 ∷ [])) (spelt (2 ∷ [])) (spelt (0 ∷ [])) (spelt (9 ∷ []))) ∷
    exports 24 (entry 200 100 10 256 ++ go 7) 0
    (joined (spelt (2 ∷ 0 ∷ 0 ∷ [])) (spelt (1 ∷ 0 ∷ 0 ∷ [])) (spelt (1 ∷ 0 ∷ [])) (spelt (2 ∷ 5 ∷ 6 ∷ []))
    ++ joined (spelt (7 ∷ [])) (spelt (0 ∷ [])) (spelt (0 ∷ [])) (spelt (0 ∷ []))) ∷
    exports 1 [] 0 [] ∷
    -- the first bad entry decides: cut, then its mark, then its sixth byte; 32 comes last, and writes nothing
    exports 0 (go 0 ++ 0 ∷ []) 20 [] ∷
    exports 0 (reply_mark ++ 0 ∷ 0 ∷ 0 ∷ 1 ∷ 0 ∷ 0 ∷ 0 ∷ 0 ∷ 0 ∷ []) 19 [] ∷
    exports 0 (entry_mark ++ 0 ∷ 0 ∷ 0 ∷ 1 ∷ 0 ∷ 0 ∷ 0 ∷ 0 ∷ 0 ∷ []) 15 [] ∷
    exports 7 (store 1 0 9) 32 [] ∷
    -- Item 5. after a restart, which is a setup: two stores without a link are lost at once, a load gives the cell's first value, and the store
    -- after it takes; then the task is idle again, so that its next store is lost, and the cell has the value that took
    enters mended two
    (gives (store 0 0 9) 3 0 0 ∷ gives (store 0 1 9) 3 0 0 ∷ counts (1 ∷ 1 ∷ 1 ∷ 0 ∷ [])
    ∷ loads 0 0 7 ++ stores 0 0 9 ++ gives (store 0 0 5) 3 0 0 ∷ loads 0 0 9) ∷
    -- they are accepted entries, and no loads, no load steps and no swaps
    runs two (gives (store 0 0 9) 3 0 0 ∷ gives (store 0 1 9) 3 0 0 ∷ loads 0 0 7 ++ stores 0 0 9) (11 ∷ 0 ∷ 1 ∷ 4 ∷ 0 ∷ 1 ∷ []) ∷
    -- a link to another cell stays: after a store to cell 1 is lost it validates good, and the store to cell 0 takes; cell 1 has its first value
    enters mended two
    (loads 0 0 7 ++ counts (2 ∷ 1 ∷ 1 ∷ 0 ∷ [])
    ∷ gives (store 0 1 9) 3 0 0 ∷ counts (2 ∷ 1 ∷ 1 ∷ 0 ∷ [])
    ∷ validates 0 5 ++ stores 0 0 9 ++ loads 0 1 8) ∷
    -- so does a stale one: both load cell 0, task 1 swaps, task 0's store to cell 1 is lost at once; its link is gone, and its store to cell 0 is
    -- begun and lost at S7
    enters mended (setup 2 2 6 (7 ∷ 8 ∷ []))
    (loads 0 0 7 ++ loads 1 0 7 ++ gives (store 1 0 9) 0 1 0 ∷ moves 1 2
    ++ gives (store 0 1 9) 3 0 0 ∷ counts (3 ∷ 1 ∷ 1 ∷ 1 ∷ 0 ∷ 0 ∷ [])
    ∷ validates 0 6 ++ gives (store 0 0 8) 0 0 0 ∷ moves 0 2 ++ gives (go 0) 3 0 0 ∷ []) ∷
    -- a stale link on the store's own cell is a link: the store begins, and is lost at its third step, S7
    enters mended small
    (loads 0 0 7 ++ loads 1 0 7 ++ gives (store 1 0 9) 0 1 0 ∷ moves 1 2
    ++ gives (store 0 0 8) 0 0 0 ∷ moves 0 2 ++ gives (go 0) 3 0 0 ∷ gives (store 0 0 8) 3 0 0 ∷ []) ∷
    -- while a load, a store, a release or a validate runs a store is refused, on its cell and on another; a cell that is not there comes before that, and
    -- a byte that is not zero before that cell
    enters mended two
    (gives (load 0 0) 0 0 0 ∷ gives (store 0 0 9) 16 0 0 ∷ gives (store 0 1 9) 16 0 0 ∷ gives (store 0 2 9) 14 0 0
    ∷ gives (entry_mark ++ 0 ∷ 2 ∷ 2 ∷ 1 ∷ 0 ∷ 0 ∷ 0 ∷ 0 ∷ []) 15 0 0 ∷ []) ∷
    enters mended two (loads 0 0 7 ++ gives (store 0 0 9) 0 0 0 ∷ gives (store 0 0 9) 16 0 0 ∷ gives (store 0 1 9) 16 0 0 ∷ []) ∷
    enters mended two (loads 0 0 7 ++ gives (release 0) 0 0 0 ∷ gives (store 0 0 9) 16 0 0 ∷ gives (store 0 1 9) 16 0 0 ∷ []) ∷
    enters mended two (loads 0 0 7 ++ gives (validate 0) 0 0 0 ∷ gives (store 0 0 9) 16 0 0 ∷ gives (store 0 1 9) 16 0 0 ∷ []) ∷
    -- an idle task's store has these faults before it has the reply 3
    enters mended two
    (gives (store 1 0 9) 12 1 0 ∷ gives (store 0 2 9) 14 0 0 ∷ gives (entry_mark ++ 0 ∷ 2 ∷ 2 ∷ 1 ∷ 0 ∷ 0 ∷ 0 ∷ 0 ∷ []) 15 0 0 ∷ []) ∷ []
