-- Wrong answers of a setup and its schedule in one input that the contract rules out. Assumes nothing.
use Rattle.std.specs.Prelude.{Result, Ok, Err}
use Prim.Native.Nat.{ℕ}
use native.Mathlib.Omega.{arith}
use mathlib.Core.Path.{◌≡◌, sym, ap, ◌∙◌}
use mathlib.Core.Bool.{true}
use mathlib.Core.List.{List, [], ◌∷◌, ◌++◌}
use mathlib.Core.Logic.{◌≢◌}
use lib.ListN.{length, get_or, drop, replicate}
use lib.Seq.{drop-length}
use borrow.Author.Tests.{le-ltb}
use contract.Lifetimes.{Lfts}
use Rattle.answers.specs.declared.Refusal.{Refusal}
use Rattle.entries.specs.Schedule.{cut}
use Rattle.cells.specs.declared.Machine.{Machine}
use Rattle.cells.specs.declared.SetUp.{SetUp}
use Rattle.cells.specs.Machine.{in_range}
use Rattle.cells.specs.Setup.{setup_of}
use Rattle.cells.proofs.Machine.setup.Reads as machine-setup
use Rattle.runs.specs.declared.Report.{Report}
use Rattle.runs.specs.declared.Ran.{Ran}
use Rattle.runs.specs.Run.{ran_from, ran_of}
use Rattle.runs.specs.Input.{outcome_by, replies_by, free_nodes_by}
use Rattle.runs.proofs.run_free.Reads as run-free
use Rattle.runs.proofs.run_input.Reads as run-input
use Rattle.laws.specs.Bytes.{load}
use Rattle.laws.specs.Small.{small}
use Rattle.laws.proofs.Start.{setup_kept}
use Rattle.laws.proofs.Ranges.{in_range_lem}
use Rattle.excluded.specs.Lent.{lent, lent_mut, never}
use Rattle.excluded.specs.Records.{running}
use Rattle.excluded.specs.Looks.{report_told}

-- a run is refused only with its setup's refusal
refused_by_lem : (a : Result ℕ Refusal) (m : Machine) (input : List ℕ) (room : ℕ) (r : Refusal) → outcome_by a m input room ≡ Err r → a ≡ Err r
refused_by_lem (Ok u) m input room r h = absurd (never cc)
refused_by_lem (Err x) m input room r h = let e : x ≡ r = cc in ap Err e

-- a run of no bytes on a record in range has no refusal
nothing_refused : (m : Machine) (s : List ℕ) (room : ℕ) → in_range m ≡ true → s ≡ [] → (ran_of m s room).report.refusal ≡ 0
unfolding ran_of cut ran_from
nothing_refused m s room r e = rw (e, r, le-ltb room 0 (omega arith))

-- the small setup, and a load by task 0 after it
abbrev small_load : List ℕ
small_load = small ++ load 0 0

-- z is handed back, and the buffers at exit are out, for the replies, and notes, for the numbers of free nodes
module _ (κs : Lfts 3) (z : Result Report Refusal) (out notes : List ℕ) where
  -- a run of the bytes `input`, with these buffers at entry
  abbrev Inputs : List ℕ → List ℕ → List ℕ → Type 0
  Inputs input was free = run-input.Post κs (lent input, (lent_mut was, (lent_mut free, tt))) z (lent input, (lent_mut out, (lent_mut notes, tt)))

  module _ (input was free : List ℕ) where
    refuses : (r : Refusal) → Inputs input was free → z ≡ Err r → (setup_of input).answer ≡ Err r
    refuses r q h = refused_by_lem (setup_of input).answer (setup_of input).machine input (length was) r (sym q.0 ∙ h)

    -- a refused setup after which a reply is written
    pub refused_input_replies : (r : Refusal) → Inputs input was free → z ≡ Err r → out ≢ was → ⊥
    refused_input_replies r q h d = d (q.1 ∙ ap (λ a. replies_by a (setup_of input).machine input was) (refuses r q h))

    -- a refused setup after which a number of free nodes is noted
    pub refused_input_notes : (r : Refusal) → Inputs input was free → z ≡ Err r → notes ≢ free → ⊥
    refused_input_notes r q h d = d (q.2 ∙ ap (λ a. free_nodes_by a (setup_of input).machine input (length was) free) (refuses r q h))

    -- a run that is refused though the setup is accepted
    pub accepted_input_refused : (u : ℕ) (r : Refusal) → (setup_of input).answer ≡ Ok u → Inputs input was free → z ≡ Err r → ⊥
    accepted_input_refused u r a q h = let e = sym a ∙ refuses r q h in never cc

    -- a run that starts though the setup is refused
    pub refused_input_starts : (r : Refusal) (x : Report) → (setup_of input).answer ≡ Err r → Inputs input was free → z ≡ Ok x → ⊥
    refused_input_starts r x a q h = let e = sym h ∙ q.0 ∙ ap (λ b. outcome_by b (setup_of input).machine input (length was)) a in never cc

    -- a run that is refused with another refusal than the setup's
    pub input_has_other_refusal : (r x : Refusal) → (setup_of input).answer ≡ Err r → Inputs input was free → z ≡ Err x → x ≢ r → ⊥
    input_has_other_refusal r x a q h d = let e = sym (refuses x q h) ∙ a in d cc

    reports : (u : ℕ) → (setup_of input).answer ≡ Ok u → Inputs input was free → report_told z ≡ (ran_of (setup_of input).machine (drop u input) (length was)).report
    reports u a q = ap report_told (q.0 ∙ ap (λ b. outcome_by b (setup_of input).machine input (length was)) a)

    -- a run that reports a refusal though nothing follows the setup
    pub no_schedule_refused : (setup_of input).answer ≡ Ok (length input) → Inputs input was free → (report_told z).refusal ≢ 0 → ⊥
    no_schedule_refused a q d =
        let r = in_range_lem (setup_of input).machine (setup_kept input (length input) a) in
        d (ap (λ x. x.refusal) (reports (length input) a q)
        ∙ nothing_refused (setup_of input).machine (drop (length input) input) (length was) r (drop-length input))

    -- the two calls that it stands for: y is the setup of those bytes, which uses u of them; w, replies and numbers are what a run of the rest gives
    module _ (κ : Lfts 1) (κr : Lfts 3) (y : SetUp) (u : ℕ) (w : Ran) (replies numbers : List ℕ) where
      abbrev SetsUp : Type 0
      SetsUp = machine-setup.Post κ (lent input, tt) y (lent input, tt) × (y.answer ≡ Ok u)

      abbrev RunsOn : Type 0
      RunsOn =
          run-free.Post κr (y.machine, (lent (drop u input), (lent_mut was, (lent_mut free, tt)))) w
          (y.machine, (lent (drop u input), (lent_mut replies, (lent_mut numbers, tt))))

      ready : SetsUp → (setup_of input).answer ≡ Ok u
      ready e = sym (ap (λ x. x.answer) e.0) ∙ e.1

      -- another report than theirs
      pub report_of_another_run : SetsUp → RunsOn → Inputs input was free → report_told z ≢ w.report → ⊥
      report_of_another_run e f q d = d (reports u (ready e) q ∙ sym (rw e.0 at (ap (λ x. x.report) f.0)))

      -- other replies than theirs
      pub replies_of_another_run : SetsUp → RunsOn → Inputs input was free → out ≢ replies → ⊥
      replies_of_another_run e f q d = d (q.1 ∙ ap (λ a. replies_by a (setup_of input).machine input was) (ready e) ∙ sym (rw e.0 at f.1))

      -- other numbers of free nodes than theirs
      pub notes_of_another_run : SetsUp → RunsOn → Inputs input was free → notes ≢ numbers → ⊥
      notes_of_another_run e f q d =
          d (q.2 ∙ ap (λ a. free_nodes_by a (setup_of input).machine input (length was) free) (ready e) ∙ sym (rw e.0 at f.2))

  -- the run of that load, with zeros for its reply and one 9 for a number of free nodes
  abbrev RunsLoad : Type 0
  RunsLoad = Inputs small_load (replicate 8 0) (9 ∷ [])

  -- a run that takes the setup's own bytes for an entry, and so accepts none
  pub setup_taken_for_entry : RunsLoad → (report_told z).accepted ≡ 0 → ⊥
  unfolding running
  setup_taken_for_entry q h = omega (arith, ap (λ o. (report_told o).accepted) q.0, h)

  -- a run that replies to the setup's own bytes, as to an entry with a wrong mark
  pub reply_to_setup : RunsLoad → get_or out 2 9 ≡ 19 → ⊥
  unfolding running
  reply_to_setup q h = omega (arith, ap (λ l. get_or l 2 9) q.1, h)

  -- a run that writes no reply
  pub input_unanswered : RunsLoad → get_or out 0 0 ≡ 0 → ⊥
  unfolding running
  input_unanswered q h = omega (arith, ap (λ l. get_or l 0 0) q.1, h)

  -- a run that notes no free nodes
  pub input_unnoted : RunsLoad → get_or notes 0 0 ≡ 9 → ⊥
  unfolding running
  input_unnoted q h = omega (arith, ap (λ l. get_or l 0 0) q.2, h)

  -- a run of the small setup alone that reports a refusal, with no room for a reply, as none is due
  pub small_alone_refused : Inputs small [] [] → (report_told z).refusal ≢ 0 → ⊥
  unfolding running
  small_alone_refused q h = h (ap (λ o. (report_told o).refusal) q.0)
