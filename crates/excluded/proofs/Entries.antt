-- Wrong answers of what an entry asks, and of calls that begin, that their contracts rule out. Assumes nothing.
use Rattle.std.specs.Prelude.{Result}
use Prim.Native.Nat.{ℕ}
use native.Mathlib.Omega.{arith}
use mathlib.Core.Path.{◌≡◌, ap}
use Rattle.tasks.specs.declared.Call.{Call}
use Rattle.tasks.specs.declared.Call.TheVariants.{Release, Validate}
use Rattle.tasks.specs.declared.Task.{Task}
use Rattle.tasks.specs.Records.{cell_no}
use Rattle.steps.specs.Types.{Effect}
use Rattle.entries.specs.declared.Asked.{Asked}
use Rattle.entries.specs.Asking.{entry_by, asked_of}
use Rattle.entries.specs.Entry.{nonzero, outside}
use Rattle.entries.specs.Order.{load_of, store_of, linked_call_of}
use Rattle.entries.proofs.asks.Reads as asks
use Rattle.entries.proofs.load.Reads as load
use Rattle.entries.proofs.store.Reads as store
use Rattle.entries.proofs.linked_call.Reads as linked-call
use Rattle.excluded.specs.Records.{at}
use Rattle.excluded.specs.Looks.{phase_left, cell_left, number_told, fault_found, kind_asked}
use Rattle.answers.specs.declared.Refusal.{Refusal}

module _ (z : Result Asked Refusal) where
  -- what an entry of task q, a kind, cell x, a spare byte and value y asks, in a machine of 1 cell and 2 tasks
  abbrev Asks : ℕ → ℕ → ℕ → ℕ → ℕ → Type 0
  Asks q kind x spare y =
      let e = entry_by (record { 0 = q }) kind (cell_no x) spare y in asks.Post tt (1, (2, (e, tt))) z (1, (2, (e, tt)))

  -- 15 for an entry of kind 5 whose spare byte isn't zero: 13 is due
  pub fifteen_for_thirteen : Asks 0 5 0 1 0 → fault_found z ≡ 15 → ⊥
  unfolding asked_of
  fifteen_for_thirteen q h = omega (arith, ap fault_found q, h)

  -- 13 for an entry of task P and kind 5: 12 is due
  pub thirteen_for_twelve : Asks 2 5 0 0 0 → fault_found z ≡ 13 → ⊥
  unfolding asked_of
  thirteen_for_twelve q h = omega (arith, ap fault_found q, h)

  -- 14 for a go with a cell of N: a go names no cell, and 15 is due
  pub fourteen_for_a_go : Asks 0 0 1 0 0 → fault_found z ≡ 14 → ⊥
  unfolding asked_of nonzero
  fourteen_for_a_go q h = omega (arith, ap fault_found q, h)

  -- 14 for a load of cell N with a value: 15 is due
  pub fourteen_for_fifteen : Asks 0 1 1 0 1 → fault_found z ≡ 14 → ⊥
  unfolding asked_of nonzero
  fourteen_for_fifteen q h = omega (arith, ap fault_found q, h)

  -- a load whose value isn't looked at
  pub load_with_a_value : Asks 0 1 0 0 1 → fault_found z ≡ 0 → ⊥
  unfolding asked_of nonzero outside
  load_with_a_value q h = omega (arith, ap fault_found q, h)

  -- a store to cell N that is taken
  pub store_past_n : Asks 0 2 1 0 9 → fault_found z ≡ 0 → ⊥
  unfolding asked_of nonzero outside
  store_past_n q h = omega (arith, ap fault_found q, h)

  -- a release that is taken for a validate
  pub release_asks_validate : Asks 0 3 0 0 0 → kind_asked z ≡ 4 → ⊥
  unfolding asked_of nonzero outside
  release_asks_validate q h = omega (arith, ap kind_asked q, h)

module _ (z : Effect) where
  -- a load of cell x by a task
  abbrev Loads : Task → ℕ → Type 0
  Loads t x = load.Post tt (t, (cell_no x, tt)) z (t, (cell_no x, tt))

  -- a load that a linked task begins
  pub linked_load_begins : Loads (at 6) 0 → number_told z ≡ 0 → ⊥
  unfolding load_of
  linked_load_begins q h = omega (arith, ap number_told q, h)

  -- a load that keeps the cell of the last call
  pub load_keeps_cell : Loads (at 0) 1 → cell_left z ≡ 0 → ⊥
  unfolding load_of
  load_keeps_cell q h = omega (arith, ap cell_left q, h)

  -- a load that begins at L2, with the m of the last call
  pub load_begins_at_two : Loads (at 0) 0 → phase_left z ≡ 2 → ⊥
  unfolding load_of
  load_begins_at_two q h = omega (arith, ap phase_left q, h)

  -- a store of 8 to cell x by a task
  abbrev Stores : Task → ℕ → Type 0
  Stores t x = store.Post tt (t, (cell_no x, (8, tt))) z (t, (cell_no x, (8, tt)))

  -- a store without a link that begins
  pub unlinked_store_begins : Stores (at 0) 0 → number_told z ≡ 0 → ⊥
  unfolding store_of
  unlinked_store_begins q h = omega (arith, ap number_told q, h)

  -- a store without a link that is refused, as document 01 had it
  pub unlinked_store_refused : Stores (at 0) 0 → number_told z ≡ 16 → ⊥
  unfolding store_of
  unlinked_store_refused q h = omega (arith, ap number_told q, h)

  -- a store that begins by a link to another cell
  pub other_cell_begins : Stores (at 6) 1 → phase_left z ≡ 7 → ⊥
  unfolding store_of
  other_cell_begins q h = omega (arith, ap phase_left q, h)

  -- a lost store that drops the link to another cell
  pub lost_store_drops_link : Stores (at 6) 1 → phase_left z ≡ 0 → ⊥
  unfolding store_of
  lost_store_drops_link q h = omega (arith, ap phase_left q, h)

  -- a store that is answered lost while a load runs
  pub store_lost_in_a_load : Stores (at 3) 0 → number_told z ≡ 3 → ⊥
  unfolding store_of
  store_lost_in_a_load q h = omega (arith, ap number_told q, h)

  -- a release or a validate by a task
  abbrev Calls : Task → Call → Type 0
  Calls t c = linked-call.Post tt (t, (c, tt)) z (t, (c, tt))

  -- a release that an idle task begins
  pub idle_release_begins : Calls (at 0) Release → number_told z ≡ 0 → ⊥
  unfolding linked_call_of
  idle_release_begins q h = omega (arith, ap number_told q, h)

  -- a validate that begins while a store runs
  pub validate_in_a_store : Calls (at 7) Validate → number_told z ≡ 0 → ⊥
  unfolding linked_call_of
  validate_in_a_store q h = omega (arith, ap number_told q, h)

  -- a validate that begins as a release
  pub validate_begins_release : Calls (at 6) Validate → phase_left z ≡ 14 → ⊥
  unfolding linked_call_of
  validate_begins_release q h = omega (arith, ap phase_left q, h)
