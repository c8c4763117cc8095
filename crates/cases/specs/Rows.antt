-- What a row of the table of cases holds, and when it is right: all from bytes, through the definitions that the contracts cite.
use Rattle.std.specs.Prelude.{ℕ, ◌+◌, ◌-◌, Bool, true, false, ◌&&◌, List, [], ◌∷◌, ◌++◌, eqb, length, take, replicate, Result}
use Rattle.answers.specs.Numbers.{number_of, value_of}
use Rattle.cells.specs.declared.Machine.{Machine}
use Rattle.cells.specs.declared.Applied.{Applied}
use Rattle.cells.specs.Free.{free_nodes, free_number, free_value}
use Rattle.cells.specs.Setup.{setup_of, setup_number, setup_bytes}
use Rattle.wire.specs.Bytes.{reply_of}
use Rattle.runs.specs.Run.{six_of, ran_of, replies_of}
use Rattle.texts.specs.Made.{Made, answered, laid, text_number, text_bytes}
use Rattle.texts.specs.Text.{imported, exported}
use Rattle.laws.specs.Bytes.{go, load, store, validate}
use Rattle.faults.specs.Benches.{Bench}
use Rattle.answers.specs.declared.Refusal.{Refusal}

-- a line of a schedule by hand: an entry's bytes with its reply's number, task and value; or the counts of the nodes below K at that point; or
-- what the free-nodes question is answered there
pub data Line : Type 0 where
  gives : List ℕ → ℕ → ℕ → ℕ → Line
  counts : List ℕ → Line
  frees : ℕ → Line

-- a setup's bytes with the number of its answer, 0 where it is taken, and how many bytes it used; or a setup that is taken, and then a
-- schedule entry by entry on a bench, or the same as one run, with its six numbers; or, for a buffer of so many bytes, a text that is imported, or
-- bytes that are exported, with the number of the answer, 0 where it is taken, and what is written
pub data Row : Type 0 where
  sets : List ℕ → ℕ → ℕ → Row
  enters : Bench → List ℕ → List Line → Row
  runs : List ℕ → List Line → List ℕ → Row
  imports : ℕ → List ℕ → ℕ → List ℕ → Row
  exports : ℕ → List ℕ → ℕ → List ℕ → Row

-- k steps of task p, each answered 0
abbrev pub moves : ℕ → ℕ → List Line
moves p k = replicate k (gives (go p) 0 p 0)

-- a whole load of cell x by task p, with nothing between, that gives v
abbrev pub loads : ℕ → ℕ → ℕ → List Line
loads p x v = gives (load p x) 0 p 0 ∷ moves p 3 ++ gives (go p) 1 p v ∷ []

-- a whole store of y to cell x by task p, with nothing between, that takes at its third step, S3
abbrev pub stores : ℕ → ℕ → ℕ → List Line
stores p x y = gives (store p x y) 0 p 0 ∷ moves p 2 ++ gives (go p) 2 p 0 ∷ []

-- a whole validate by task p, with nothing between, answered r
abbrev pub validates : ℕ → ℕ → List Line
validates p r = gives (validate p) 0 p 0 ∷ gives (go p) r p 0 ∷ []

-- after each line the free-nodes question, answered n
abbrev pub asking : ℕ → List Line → List Line
asking n [] = []
asking n (l ∷ ls) = l ∷ frees n ∷ asking n ls

-- two lists are the same
abbrev pub same : List ℕ → List ℕ → Bool
same [] [] = true
same [] (y ∷ ys) = false
same (x ∷ xs) [] = false
same (x ∷ xs) (y ∷ ys) = eqb x y && same xs ys

-- the reply that an entry was given
abbrev pub replied : Applied → ℕ → ℕ → ℕ → Bool
replied a number p y = eqb (number_of a.answer) number && (eqb a.task p && eqb (value_of a.answer) y)

-- what the free-nodes question was answered
abbrev pub told : Result ℕ Refusal → ℕ → Bool
told f n = eqb (free_number f) 0 && eqb (free_value f) n

-- each line in turn
abbrev pub agrees : Bench → Machine → List Line → Bool
agrees b m [] = true
agrees b m (gives e number p y ∷ ls) = let a = b.apply m e in replied a number p y && agrees b a.machine ls
agrees b m (counts cs ∷ ls) = same (take m.k m.counts) cs && agrees b m ls
agrees b m (frees n ∷ ls) = told (free_nodes m) n && agrees b m ls

-- the answer that a setup was given
abbrev pub set_with : Result ℕ Refusal → ℕ → ℕ → Bool
set_with a number used = eqb (setup_number a) number && eqb (setup_bytes a) used

-- the entries of some lines as one schedule, and their replies' bytes
abbrev pub schedule : List Line → List ℕ
schedule [] = []
schedule (gives e number p y ∷ ls) = e ++ schedule ls
schedule (counts cs ∷ ls) = schedule ls
schedule (frees n ∷ ls) = schedule ls

abbrev pub replies : List Line → List ℕ
replies [] = []
replies (gives e number p y ∷ ls) = reply_of number p y ++ replies ls
replies (counts cs ∷ ls) = replies ls
replies (frees n ∷ ls) = replies ls

-- a whole run on a record, with just room for the replies
abbrev pub ran_right : Machine → List Line → List ℕ → Bool
ran_right m ls six =
    same (replies_of m (schedule ls) (length (replies ls))) (replies ls) && same (six_of (ran_of m (schedule ls) (length (replies ls))).report) six

-- what a direction makes: its answer, and the buffer at exit, which was all 7 before
abbrev pub made_right : Made → ℕ → ℕ → List ℕ → Bool
made_right m room number out =
    eqb (text_number (answered m room)) number && eqb (text_bytes (answered m room)) (length out)
    && same (laid m (replicate room 7)) (out ++ replicate (room - length out) 7)

-- a number's digits as text
abbrev pub spelt : List ℕ → List ℕ
spelt [] = []
spelt (d ∷ ds) = (0x30 + d) ∷ spelt ds

-- a row is right, and all of a table are
abbrev pub right : Row → Bool
right (sets s number used) = set_with (setup_of s).answer number used
right (enters b s ls) = set_with (setup_of s).answer 0 (length s) && agrees b (setup_of s).machine ls
right (runs s ls six) = set_with (setup_of s).answer 0 (length s) && ran_right (setup_of s).machine ls six
right (imports room t number out) = made_right (imported t) room number out
right (exports room s number out) = made_right (exported s) room number out

abbrev pub every : List Row → Bool
every [] = true
every (r ∷ rs) = right r && every rs
