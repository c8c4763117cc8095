-- What is asked, done, is what `order_of` has; and what is asked by an entry of known parts, test by test. Assumes nothing.
use Rattle.std.specs.Prelude.{Result, Ok, Err}
use Prim.Native.Nat.{ℕ, ◌≤◌, ◌<◌}
use mathlib.Core.Path.{◌≡◌, refl, sym, ap, ◌∙◌}
use mathlib.Core.Bool.{Bool, true, false, cond}
use mathlib.Core.Logic.{◌≢◌}
use lib.Dec.{eqb, leb, ltb}
use borrow.Author.Tests.{le-leb, lt-leb, lt-ltb, le-ltb, eq-eqb, ne_eqb}
use Rattle.steps.specs.Table.{effect_of}
use Rattle.entries.specs.Types.{Task, Release, Validate, NoTask, NoKind, NoCell, NotZero, Seen, Entry, Asked, ToGo, ToLoad, ToStore, ToRelease, ToValidate}
use Rattle.entries.specs.Entry.{nonzero, outside}
use Rattle.entries.specs.Order.{load_of, store_of, linked_call_of, call_of, order_of}
use Rattle.entries.specs.Asking.{plain_of, asked_of, obeyed}
use Rattle.answers.specs.declared.Refusal.{Refusal}

pub order_asked : (n p : ℕ) (e : Entry) (t : Task) (s : Seen) → order_of n p e t s ≡ obeyed (asked_of n p e) t s
unfolding order_of call_of asked_of
order_asked n p e t s = both (leb p e.task.0) (ltb 4 e.kind) (nonzero e) (outside n e) (eqb e.kind 0) (eqb e.kind 1) (eqb e.kind 2) (eqb e.kind 3)
  where
    -- both go by the same tests
    both : (a b c d k0 k1 k2 k3 : Bool)
        → cond a (Err NoTask) (cond b (Err NoKind) (cond c (Err NotZero) (cond d (Err NoCell) (cond k0 (effect_of t s) (cond k1 (load_of t e.cell) (cond k2 (store_of t e.cell e.value) (cond k3 (linked_call_of t Release) (linked_call_of t Validate))))))))
        ≡ obeyed (cond a (Err NoTask) (cond b (Err NoKind) (cond c (Err NotZero) (cond d (Err NoCell) (cond k0 (Ok ToGo) (cond k1 (Ok (ToLoad e.cell)) (cond k2 (Ok (ToStore e.cell e.value)) (cond k3 (Ok ToRelease) (Ok ToValidate))))))))) t s
    both true b c d k0 k1 k2 k3 = refl
    both false true c d k0 k1 k2 k3 = refl
    both false false true d k0 k1 k2 k3 = refl
    both false false false true k0 k1 k2 k3 = refl
    both false false false false true k1 k2 k3 = refl
    both false false false false false true k2 k3 = refl
    both false false false false false false true k3 = refl
    both false false false false false false false true = refl
    both false false false false false false false false = refl

-- a is what is asked, and b is what it was found to be
pub asked_done : (n p : ℕ) (e : Entry) (t : Task) (s : Seen) (a : Result Asked Refusal) → a ≡ asked_of n p e → (b : Result Asked Refusal) → a ≡ b → obeyed b t s ≡ order_of n p e t s
asked_done n p e t s a q b r = ap (λ (x : Result Asked Refusal). obeyed x t s) (sym r ∙ q) ∙ sym (order_asked n p e t s)

ok_of_both : (a b : Bool) (f g h : Asked) → ◌≡◌ {A = Result Asked Refusal} (cond a (Ok f) (cond b (Ok g) (Ok h))) (Ok (cond a f (cond b g h)))
ok_of_both true b f g h = refl
ok_of_both false true f g h = refl
ok_of_both false false f g h = refl

module _ (n p : ℕ) (e : Entry) where
  abbrev Asks : Result Asked Refusal → Type 0
  Asks a = asked_of n p e ≡ a

  pub no-task : p ≤ e.task.0 → Asks (Err NoTask)
  unfolding asked_of
  no-task h = rw (le-leb p e.task.0 h)

  module _ (a : e.task.0 < p) where
    pub no_kind : 4 < e.kind → Asks (Err NoKind)
    unfolding asked_of
    no_kind h = rw (lt-leb p e.task.0 a, lt-ltb 4 e.kind h)

    pub spare_set : e.kind ≤ 4 → e.spare ≢ 0 → Asks (Err NotZero)
    unfolding asked_of nonzero
    spare_set k h = rw (lt-leb p e.task.0 a, le-ltb 4 e.kind k, ne_eqb e.spare 0 h)

    module _ (z : e.spare ≡ 0) where
      pub load_value : e.kind ≡ 1 → e.value ≢ 0 → Asks (Err NotZero)
      unfolding asked_of nonzero
      load_value k h = rw (lt-leb p e.task.0 a, k, eq-eqb e.spare 0 z, ne_eqb e.value 0 h)

      pub load_cell : e.kind ≡ 1 → e.value ≡ 0 → n ≤ e.cell.0 → Asks (Err NoCell)
      unfolding asked_of nonzero outside
      load_cell k h c = rw (lt-leb p e.task.0 a, k, eq-eqb e.spare 0 z, eq-eqb e.value 0 h, le-leb n e.cell.0 c)

      pub to_load : e.kind ≡ 1 → e.value ≡ 0 → e.cell.0 < n → Asks (Ok (ToLoad e.cell))
      unfolding asked_of nonzero outside
      to_load k h c = rw (lt-leb p e.task.0 a, k, eq-eqb e.spare 0 z, eq-eqb e.value 0 h, lt-leb n e.cell.0 c)

      pub store-cell : e.kind ≡ 2 → n ≤ e.cell.0 → Asks (Err NoCell)
      unfolding asked_of nonzero outside
      store-cell k c = rw (lt-leb p e.task.0 a, k, eq-eqb e.spare 0 z, le-leb n e.cell.0 c)

      pub to_store : e.kind ≡ 2 → e.cell.0 < n → Asks (Ok (ToStore e.cell e.value))
      unfolding asked_of nonzero outside
      to_store k c = rw (lt-leb p e.task.0 a, k, eq-eqb e.spare 0 z, lt-leb n e.cell.0 c)

      -- a kind that names no cell
      module _ (few : e.kind ≤ 4) (not-one : e.kind ≢ 1) (not-two : e.kind ≢ 2) where
        pub cell_set : e.cell.0 ≢ 0 → Asks (Err NotZero)
        unfolding asked_of nonzero
        cell_set h = rw (lt-leb p e.task.0 a, le-ltb 4 e.kind few, eq-eqb e.spare 0 z, ne_eqb e.kind 1 not-one, ne_eqb e.kind 2 not-two, ne_eqb e.cell.0 0 h)

        pub value_set : e.cell.0 ≡ 0 → e.value ≢ 0 → Asks (Err NotZero)
        unfolding asked_of nonzero
        value_set c h = rw (lt-leb p e.task.0 a, le-ltb 4 e.kind few, eq-eqb e.spare 0 z, ne_eqb e.kind 1 not-one, ne_eqb e.kind 2 not-two, eq-eqb e.cell.0 0 c, ne_eqb e.value 0 h)

        pub by_kind : e.cell.0 ≡ 0 → e.value ≡ 0 → Asks (Ok (plain_of e.kind))
        unfolding asked_of plain_of nonzero outside
        by_kind c h = rw (lt-leb p e.task.0 a, le-ltb 4 e.kind few, eq-eqb e.spare 0 z, ne_eqb e.kind 1 not-one, ne_eqb e.kind 2 not-two, eq-eqb e.cell.0 0 c, eq-eqb e.value 0 h) (ok_of_both (eqb e.kind 0) (eqb e.kind 3) ToGo ToRelease ToValidate)
