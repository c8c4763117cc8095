-- The setup of document 01's cases 9 to 12, and cases 10 and 11 up to where a call can need the most steps.
use Rattle.std.specs.Prelude.{ℕ, List, [], ◌∷◌, ◌++◌, replicate}
use Rattle.cells.specs.Setup.{setup_of}
use Rattle.laws.specs.Types.{Machine}
use Rattle.laws.specs.Bytes.{setup, go, load, store}

-- N=1, P=2, K=5, value 7
abbrev pub small : List ℕ
small = setup 1 2 5 (7 ∷ [])

-- its record: the cell at node 0, task 0 with node 1, task 1 with node 2, nodes 3 and 4 free
abbrev pub fresh : Machine
fresh = (setup_of small).machine

-- n steps of task p
abbrev pub gos : ℕ → ℕ → List (List ℕ)
gos n p = replicate n (go p)

-- case 10: both load 7, and task 1 begins to store 9
abbrev pub case10 : List (List ℕ)
case10 = load 0 0 ∷ gos 4 0 ++ load 1 0 ∷ gos 4 1 ++ store 1 0 9 ∷ []

-- case 11: task 0 does L1, and task 1 loads and stores 9
abbrev pub case11 : List (List ℕ)
case11 = load 0 0 ∷ go 0 ∷ load 1 0 ∷ gos 4 1 ++ store 1 0 9 ∷ gos 3 1
