-- Setups and entries written as document 01's bytes, so that a schedule can be read.
use Rattle.std.specs.Prelude.{ℕ, List, [], ◌∷◌, ◌++◌}
use Rattle.wire.specs.Bytes.{setup_mark, entry_mark, little_endian}

-- values of 4 bytes, one after another
abbrev pub words : List ℕ → List ℕ
words [] = []
words (v ∷ vs) = little_endian v ++ words vs

-- the mark, N, P, K, a zero byte, the values
abbrev pub setup : ℕ → ℕ → ℕ → List ℕ → List ℕ
setup n p k vs = setup_mark ++ n ∷ p ∷ k ∷ 0 ∷ words vs

-- the mark, task, kind, cell, a zero byte, value
abbrev pub entry : ℕ → ℕ → ℕ → ℕ → List ℕ
entry p kind x y = entry_mark ++ p ∷ kind ∷ x ∷ 0 ∷ little_endian y

-- kind 0: task p makes one step
abbrev pub go : ℕ → List ℕ
go p = entry p 0 0 0

-- kind 1: task p begins a load of cell x
abbrev pub load : ℕ → ℕ → List ℕ
load p x = entry p 1 x 0

-- kind 2: task p begins a store of y to cell x
abbrev pub store : ℕ → ℕ → ℕ → List ℕ
store p x y = entry p 2 x y

-- kind 3: task p begins a release
abbrev pub release : ℕ → List ℕ
release p = entry p 3 0 0

-- kind 4: task p begins a validate
abbrev pub validate : ℕ → List ℕ
validate p = entry p 4 0 0
