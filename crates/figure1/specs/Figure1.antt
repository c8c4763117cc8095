-- Figure 1 of source 000, to be read beside it: the cells' values, the set S of each cell, and the calls, each one atomic action.
use Rattle.std.specs.Prelude.{ℕ, Bool, true, false, cond, eqb}

-- f, but a at x
abbrev pub put : {A : Type 0} → (ℕ → A) → ℕ → A → ℕ → A
put f x a y = cond (eqb y x) a (f y)

-- val x is the value of cell x; member x p says that task p is in S[x]
pub record Cells : Type 0 where
  pub val : ℕ → ℕ
  pub member : ℕ → ℕ → Bool

pub data Call : Type 0 where
  load : ℕ → Call
  store : ℕ → ℕ → Call
  release : ℕ → Call
  validate : ℕ → Call

pub data Result : Type 0 where
  value : ℕ → Result
  took : Result
  lost : Result
  released : Result
  good : Result
  gone : Result

-- a call's two effects: on the cells, and its result
pub record Given : Type 0 where
  pub cells : Cells
  pub result : Result

abbrev pub nobody : ℕ → Bool
nobody p = false

-- by task p.  LL(x): p joins S[x], and the value of x is returned.
-- SC(x, y): if p is in S[x] then S[x] is emptied, x becomes y, true is returned; else nothing changes and false is returned.
-- release(x), document 01's addition: p leaves S[x].
-- VL(x), from source 004: nothing changes, and true is returned if p is in S[x], else false. (specs/Validate has it as source 004 does.)
abbrev pub figure1 : Cells → ℕ → Call → Given
figure1 c p (load x) = record { cells = record { val = c.val; member = put c.member x (put (c.member x) p true) }; result = value (c.val x) }
figure1 c p (store x y) =
    cond (c.member x p) (record { cells = record { val = put c.val x y; member = put c.member x nobody }; result = took })
    (record { cells = c; result = lost })
figure1 c p (release x) = record { cells = record { val = c.val; member = put c.member x (put (c.member x) p false) }; result = released }
figure1 c p (validate x) = record { cells = c; result = cond (c.member x p) good gone }
