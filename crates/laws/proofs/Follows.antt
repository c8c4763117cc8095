-- One entry agrees with figure 1: its events are legal, and the record stays in the state that figure 1 is in. Assumes nothing.
use Rattle.std.specs.Prelude.{Ok}
use Prim.Native.Nat.{ℕ, ◌<◌}
use native.Mathlib.Omega.{arith}
use native.Mathlib.Decide.{ℕ_discrete}
use mathlib.Core.Path.{◌≡◌, refl, sym, ap, ◌∙◌}
use mathlib.Core.Bool.{Bool, true, false, cond, ◌&&◌, and-false}
use mathlib.Core.List.{List, [], ◌∷◌, ◌++◌}
use mathlib.Core.Logic.{◌≢◌}
use lib.Dec.{T, eqb}
use lib.ListN.{get_or, set}
use lib.Seq.{get_or-set_other}
use borrow.Author.Tests.{eq-eqb, ne_eqb}
use Rattle.tallies.proofs.Lists.{either}
use Rattle.tallies.proofs.Tally.{tally-at, bit_eq, put-each}
use Rattle.wire.specs.Bytes.{word_at}
use Rattle.tasks.specs.Records.{no_task, onward}
use Rattle.tasks.specs.Phases.{live, passed}
use Rattle.steps.specs.Table.{effect_of}
use Rattle.cells.specs.Machine.{seen_of, written}
use Rattle.cells.specs.Apply.{apply_of}
use Rattle.runs.specs.Counts.{kind_of}
use Rattle.figure1.specs.Figure1.{put, Call, load, store, release, validate, value, took, lost, released, good, gone, nobody}
use Rattle.figure1.specs.Histories.{Status, quiet, asked, acted, State, Event, begins, acts, ends, act, after_all, Follows}
use Rattle.figure1.proofs.Put.{put_same, put_other, put_in, set-put}
use Rattle.laws.specs.Types.{Lost, TaskNo, Task, Nothing, Point, Value, Deed, Machine}
use Rattle.laws.specs.Meaning.{points, claims}
use Rattle.laws.specs.Kept.{Ready, InRange, Kept}
use Rattle.laws.specs.Acts.{in_set, linked_at, standing, Matches, acts_from, ending, each, at_once, events_in, events_of}
use Rattle.laws.proofs.Phases.{phase-gives}
use Rattle.laws.proofs.Entries.{task_no, Unlinked, idle, elsewhere, by_entry}
use Rattle.laws.proofs.Rows.{Moves, l1, l2, l3_passed, l3_turned, l4, l5, s1, s2_swapped, s2_missed, s3_took, s3_shared, s5, s6_took, s6_busy, s7, r1, v1_good, v1_gone, moves}
use Rattle.laws.proofs.Keeps.{task, in_list, put_here, in_cells, part}

-- only a load that has passed its check looks at a value
standing-same : (vs vs' : List ℕ) (f : ℕ) (t : Task) → (f ≡ 4 → get_or vs t.held.0 0 ≡ get_or vs' t.held.0 0) → standing vs f t ≡ standing vs' f t
standing-same vs vs' f t h = elim (ℕ_discrete f 4) [ yes q ↦ rw q (ap (λ (v : ℕ). acted (value v)) (h q)) | no n ↦ rw (ne_eqb f 4 n) ]

-- where x points at a node that no task of these phases holds, nobody is in S[x]
pointed_away : (v x : ℕ) (t : Task) → (T (in_set t.phase) → v ≢ t.held.0) → linked_at v x t ≡ false
pointed_away v x t h =
    either (λ b. (T b → v ≢ t.held.0) → (b && (eqb t.cell.0 x && eqb v t.held.0)) ≡ false) (in_set t.phase)
    (λ q k. rw (ne_eqb v t.held.0 (k tt)) (and-false (eqb t.cell.0 x))) (λ q k. refl) h

-- the whole call of a store that is lost at its own entry
abbrev pub whole : ℕ → ℕ → ℕ → List Event
whole p x y = begins p (store x y) ∷ at_once p Lost

-- which its entry's events are
pub events-whole : (acting : ℕ → ℕ → Bool) (m m' : Machine) (e : List ℕ) → kind_of e ≡ 2 → events_in acting (Ok Lost) m m' e ≡ whole (get_or e 2 0) (get_or e 4 0) (word_at e 6)
events-whole acting m m' e k = rw (k, k)

-- a task without a link on x is not in S[x], wherever x points
pub no_part : (v x : ℕ) (t : Task) → Unlinked t x → linked_at v x t ≡ false
no_part v x t (idle q) = rw q
no_part v x t (elsewhere q n) = rw (q, ne_eqb t.cell.0 x n)

module _ (m : Machine) (K : Kept m) (p : TaskNo) (hp : p.0 < m.p) (a : State) (M : Matches m a) where
  abbrev t : Task
  t = task m p.0

  abbrev at : ℕ → Task
  at f = onward t f

  abbrev x : ℕ
  x = t.cell.0

  -- the node that cell y points at
  abbrev node : ℕ → ℕ
  node y = get_or m.cells y 0

  in_t : InRange m.n m.k t
  in_t = K.sound.each p.0 hp

  -- a fact of each task, after p's record changed
  every-task : (R : ℕ → Task → Type 0) (t' : Task) → R p.0 t' → (q : ℕ) → (q ≢ p.0 → R q (task m q)) → R q (get_or (set m.tasks p.0 t') q no_task)
  every-task R t' r q rest = put-each R m.tasks p.0 t' no_task (in_list m K hp) r q rest

  -- what the relation says of task p in phase f
  link : (f : ℕ) → t ≡ at f → (y : ℕ) → y < m.n → linked_at (node y) y (at f) ≡ a.cells.member y p.0
  link f e y hy = rw e at (M.sets y p.0 hy hp)

  stand : (f : ℕ) → t ≡ at f → a.status p.0 ≡ standing m.values f (at f)
  stand f e = sym (rw e at (M.calls p.0 hp))

  -- the record with t' for task p, any counts and any number of free nodes
  abbrev turned : ℕ → Task → List ℕ → Machine
  turned free t' counts = record { n = m.n; p = m.p; k = m.k; free = free; cells = m.cells; values = m.values; counts = counts; tasks = set m.tasks p.0 t' }

  -- pointers and values stay, and so does the task's part in the sets
  still : {free : ℕ} (f : ℕ) (t' : Task) (counts : List ℕ) (st : ℕ → Status) → t ≡ at f → ((y : ℕ) → linked_at (node y) y (at f) ≡ linked_at (node y) y t')
      → standing m.values t'.phase t' ≡ st p.0 → ((q : ℕ) → q ≢ p.0 → st q ≡ a.status q)
      → Matches (turned free t' counts) (record { cells = a.cells; status = st })
  still f t' counts st e l here there = record {
    vals = M.vals;
    sets = λ y q hy hq. every-task (λ i d. linked_at (node y) y d ≡ a.cells.member y i) t' (sym (l y) ∙ link f e y hy) q (λ n. M.sets y q hy hq);
    calls = λ q hq. every-task (λ i d. standing m.values d.phase d ≡ st i) t' here q (λ n. M.calls q hq ∙ sym (there q n));
  }

  -- figure 1 stutters; or the task's call begins or ends
  stutter : {free : ℕ} (f : ℕ) (t' : Task) (counts : List ℕ) → t ≡ at f → ((y : ℕ) → linked_at (node y) y (at f) ≡ linked_at (node y) y t')
      → standing m.values t'.phase t' ≡ standing m.values f (at f) → Matches (turned free t' counts) a
  stutter f t' counts e l s = still f t' counts a.status e l (s ∙ sym (stand f e)) (λ q n. refl)

  stands : {free : ℕ} (f : ℕ) (t' : Task) (counts : List ℕ) (s : Status) → t ≡ at f → ((y : ℕ) → linked_at (node y) y (at f) ≡ linked_at (node y) y t')
      → standing m.values t'.phase t' ≡ s → Matches (turned free t' counts) (record { cells = a.cells; status = put a.status p.0 s })
  stands f t' counts s e l w = still f t' counts (put a.status p.0 s) e l (w ∙ sym (put_same a.status p.0 s)) (put_other a.status p.0 s)

  -- every task's call, after p's
  calls-after : (t' : Task) (s : Status) → standing m.values t'.phase t' ≡ s → (q : ℕ) → q < m.p
      → standing m.values (get_or (set m.tasks p.0 t') q no_task).phase (get_or (set m.tasks p.0 t') q no_task) ≡ put a.status p.0 s q
  calls-after t' s w q hq =
      set-put (λ d r. standing m.values d.phase d ≡ r) m.tasks p.0 t' no_task a.status s (in_list m K hp) w q (λ n. M.calls q hq)

  -- a step's events
  abbrev events_if : ℕ → Deed → List Event
  events_if f d = cond (acts_from f d.task.phase) (acts p.0 ∷ []) [] ++ each (ends p.0) (ending d.reply)

  abbrev Fits : ℕ → Deed → Type 0
  Fits f d = Follows a (events_if f d) × Matches (written m p d.task d.write) (after_all a (events_if f d))

  -- a set where p's part becomes b, and the other sets
  sets-after : (f : ℕ) (t' : Task) (b : Bool) → t ≡ at f → linked_at (node x) x t' ≡ b → ((y : ℕ) → y ≢ x → linked_at (node y) y t' ≡ linked_at (node y) y (at f)) → (y q : ℕ) → y < m.n → q < m.p
      → linked_at (node y) y (get_or (set m.tasks p.0 t') q no_task) ≡ put a.cells.member x (put (a.cells.member x) p.0 b) y q
  sets-after f t' b e here there y q hy hq =
      put_in (λ z g. z < m.n → linked_at (node z) z (get_or (set m.tasks p.0 t') q no_task) ≡ g q) a.cells.member x (put (a.cells.member x) p.0 b)
      (λ hz. set-put (λ d c. linked_at (node x) x d ≡ c) m.tasks p.0 t' no_task (a.cells.member x) b (in_list m K hp) here q (λ n. M.sets x q hz hq))
      y (λ ne hz. every-task (λ i d. linked_at (node y) y d ≡ a.cells.member y i) t' (there y ne ∙ link f e y hz) q (λ n. M.sets y q hz hq)) hy

  -- a call acts
  acts_now : (c : Call) (m' : Machine) → a.status p.0 ≡ asked c → Matches m' (act a p.0 (asked c)) → Follows a (acts p.0 ∷ []) × Matches m' (after_all a (acts p.0 ∷ []))
  acts_now c m' w M' = rw w ((tt, tt), M')

  -- a load at its passing check
  load-acts : t ≡ at 3 → t.held.0 ≡ node x → Matches (written m p (at 4) Nothing) (act a p.0 (asked (load x)))
  load-acts e q = record {
    vals = M.vals;
    sets = sets-after 3 (at 4) true e (rw (eq-eqb x x refl, eq-eqb (node x) t.held.0 (sym q))) (λ y n. rw (ne_eqb x y (λ w. n (sym w))));
    calls = calls-after (at 4) (acted (value (a.cells.val x))) (ap (λ (v : ℕ). acted (value v)) (rw q (M.vals x in_t.cell)));
  }

  -- S1 writes a node that no cell points at and no passed check holds
  s1-fits : (e : t ≡ at 7) → Matches (written m p (at 8) (Value t.own t.value)) a
  s1-fits e = record {
    vals = λ y hy. get_or-set_other m.values o (node y) t.value 0 (clear y hy) ∙ M.vals y hy;
    sets = λ y q hy hq. every-task (λ i d. linked_at (node y) y d ≡ a.cells.member y i) (at 8) (link 7 e y hy) q (λ n. M.sets y q hy hq);
    calls = λ q hq. every-task (λ i d. standing (set m.values o t.value) d.phase d ≡ a.status i) (at 8) (sym (stand 7 e)) q
        (λ n. standing-same (set m.values o t.value) m.values (task m q).phase (task m q)
        (λ w. get_or-set_other m.values o (task m q).held.0 t.value 0 (away q hq (rw w tt))) ∙ M.calls q hq);
  }
    where
      o : ℕ
      o = t.own.0

      clear : (y : ℕ) → y < m.n → node y ≢ o
      clear y hy w =
          omega (
            arith,
            K.sole o in_t.own,
            tally-at (points o) m.n m.cells y 0 hy (in_cells m K hy),
            bit_eq (node y) o w,
            part m K p hp (at 7) e (claims o),
            bit_eq o o refl,
          )

      away : (q : ℕ) → q < m.p → T (passed (task m q).phase) → (task m q).held.0 ≢ o
      away q hq k w = let h : T (live 7) → o ≢ (task m q).held.0 = rw e at (K.held q p.0 hq hp k) in h tt (sym w)

  -- p, whose check has passed, is in S[x] where x is at the node that it holds
  member_is : (f : ℕ) (b : Bool) → in_set f ≡ true → t ≡ at f → eqb (node x) t.held.0 ≡ b → a.cells.member x p.0 ≡ b
  member_is f b s e q = sym (link f e x in_t.cell) ∙ rw (s, eq-eqb x x refl, q)

  -- a store at its swap
  swap_acts : t ≡ at 8 → t.held.0 ≡ node x → Matches (written m p (at 9) (Point t.cell t.own)) (act a p.0 (asked (store x t.value)))
  swap_acts e q = rw (member_is 8 true refl e (eq-eqb (node x) t.held.0 (sym q))) (record {
    vals = λ y hy. set-put (λ v b. get_or m.values v 0 ≡ b) m.cells x t.own.0 0 a.cells.val t.value (in_cells m K in_t.cell)
        (let w : Ready m.values (at 8) = rw e at (K.written p.0 hp) in w refl) y (λ n. M.vals y hy);
    sets = λ y q hy hq. set-put (λ v g. linked_at v y (get_or (set m.tasks p.0 (at 9)) q no_task) ≡ g q) m.cells x t.own.0 0 a.cells.member nobody
        (in_cells m K in_t.cell) (every-task (λ i d. linked_at t.own.0 y d ≡ false) (at 9) refl q (λ n. gone y q hq))
        y (λ n. every-task (λ i d. linked_at (node y) y d ≡ a.cells.member y i) (at 9) (rw (ne_eqb x y (λ w. n (sym w))) at (link 8 e y hy)) q (λ k. M.sets y q hy hq));
    calls = calls-after (at 9) (acted took) refl;
  })
    where
      -- whoever passed a check holds another node than the one that the cell points at now
      gone : (y q : ℕ) → q < m.p → linked_at t.own.0 y (task m q) ≡ false
      gone y q hq = pointed_away t.own.0 y (task m q) (λ k. let h : T (live 8) → t.own.0 ≢ (task m q).held.0 = rw e at (K.held q p.0 hq hp (phase-gives in_set passed tt (task m q).phase (K.sound.each q hq).phase k)) in h tt)

  -- a store that misses: no part in S[x], nor in another set
  miss_acts : t ≡ at 8 → t.held.0 ≢ node x → Matches (written m p (at 13) Nothing) (act a p.0 (asked (store x t.value)))
  miss_acts e q = rw out (record {
    vals = M.vals;
    sets = λ y q hy hq. every-task (λ i d. linked_at (node y) y d ≡ a.cells.member y i) (at 13) (off y hy) q (λ n. M.sets y q hy hq);
    calls = calls-after (at 13) (acted lost) refl;
  })
    where
      out : a.cells.member x p.0 ≡ false
      out = member_is 8 false refl e (ne_eqb (node x) t.held.0 (λ w. q (sym w)))

      off : (y : ℕ) → y < m.n → false ≡ a.cells.member y p.0
      off y hy = elim (ℕ_discrete x y) [ yes w ↦ rw w at (sym out) | no w ↦ rw (ne_eqb x y w) at (link 8 e y hy) ]

  -- a release at its one step, which also ends it
  release-acts : {free : ℕ} (e : t ≡ at 14) (counts : List ℕ)
      → Follows a (acts p.0 ∷ ends p.0 released ∷ []) × Matches (turned free (at 0) counts) (after_all a (acts p.0 ∷ ends p.0 released ∷ []))
  release-acts e counts = rw (stand 14 e) (
    (tt, (put_same a.status p.0 (acted released), tt)),
    record {
      vals = M.vals;
      sets = sets-after 14 (at 0) false e refl (λ y n. rw (ne_eqb x y (λ w. n (sym w))));
      calls = λ q hq. set-put (λ d r. standing m.values d.phase d ≡ r) m.tasks p.0 (at 0) no_task (put a.status p.0 (acted released)) quiet (in_list m K hp) refl q
          (λ n. M.calls q hq ∙ sym (put_other a.status p.0 (acted released) q n));
    },
  )

  -- a validate at its one step, which also ends it: the cells stay, and p's part in S[x] is what the comparison found
  validate-acts : (e : t ≡ at 15) (b : Bool) → eqb (node x) t.held.0 ≡ b
      → Follows a (acts p.0 ∷ ends p.0 (cond b good gone) ∷ [])
      × Matches (turned m.free (at 6) m.counts) (after_all a (acts p.0 ∷ ends p.0 (cond b good gone) ∷ []))
  validate-acts e b q = rw (begun, member_is 15 b refl e q) (
    (tt, (put_same a.status p.0 given, tt)),
    still 15 (at 6) m.counts (put later p.0 quiet) e (λ y. refl) (sym (put_same later p.0 quiet))
        (λ q n. put_other later p.0 quiet q n ∙ put_other a.status p.0 given q n),
  )
    where
      begun : a.status p.0 ≡ asked (validate x)
      begun = stand 15 e

      given : Status
      given = acted (cond b good gone)

      later : ℕ → Status
      later = put a.status p.0 given

  row_fits : {f : ℕ} {d : Deed} → Moves t (seen_of m t) f d → t ≡ at f → Fits f d
  row_fits l1 e = (tt, stutter 1 _ _ e (λ y. refl) refl)
  row_fits (l2 h) e = (tt, stutter 2 (at 3) _ e (λ y. refl) refl)
  row_fits (l3_passed q) e = acts_now (load x) _ (stand 3 e) (load-acts e q)
  row_fits (l3_turned q) e = (tt, stutter 3 (at 5) _ e (λ y. refl) refl)
  row_fits l4 e = ((stand 4 e, tt), stands 4 (at 6) _ quiet e (λ y. refl) refl)
  row_fits (l5 h) e = (tt, stutter 5 (at 1) _ e (λ y. refl) refl)
  row_fits s1 e = (tt, s1-fits e)
  row_fits (s2_swapped q) e = acts_now (store x t.value) _ (stand 8 e) (swap_acts e q)
  row_fits (s2_missed q) e = acts_now (store x t.value) _ (stand 8 e) (miss_acts e q)
  row_fits (s3_took q) e = ((stand 9 e, tt), stands 9 _ _ quiet e (λ y. refl) refl)
  row_fits (s3_shared h q) e = (tt, stutter 9 (at 11) _ e (λ y. refl) refl)
  row_fits (s5 h) e = (tt, stutter 11 _ _ e (λ y. refl) refl)
  row_fits (s6_took q) e = ((stand 12 e, tt), stands 12 _ _ quiet e (λ y. refl) refl)
  row_fits (s6_busy q) e = (tt, stutter 12 _ _ e (λ y. refl) refl)
  row_fits (s7 h) e = ((stand 13 e, tt), stands 13 (at 0) _ quiet e (λ y. refl) refl)
  row_fits (r1 h) e = release-acts e _
  row_fits (v1_good q) e = validate-acts e true (eq-eqb (node x) t.held.0 (sym q))
  row_fits (v1_gone q) e = validate-acts e false (ne_eqb (node x) t.held.0 (λ w. q (sym w)))

  pub step_fits : (d : Deed) → effect_of t (seen_of m t) ≡ Ok d → Fits t.phase d
  step_fits d q = row_fits (moves t (seen_of m t) d q) refl

  -- a call begins
  begin_fits : (f : ℕ) (c : Call) (t' : Task) → t.phase ≡ f → standing m.values f (at f) ≡ quiet → ((y : ℕ) → linked_at (node y) y (at f) ≡ linked_at (node y) y t')
      → standing m.values t'.phase t' ≡ asked c
      → Follows a (begins p.0 c ∷ []) × Matches (written m p t' Nothing) (after_all a (begins p.0 c ∷ []))
  begin_fits f c t' q w l s = let e = ap (onward t) q in ((stand f e ∙ w, tt), stands f t' m.counts (asked c) e l s)

  -- a store without a link: p is not in S[y], so that figure 1 gives lost and leaves the cells
  lost-fits : (y v : ℕ) → y < m.n → Unlinked t y
      → Follows a (whole p.0 y v) × Matches m (after_all a (whole p.0 y v))
  lost-fits y v hy u = rw (eq-eqb p.0 p.0 refl, sym (M.sets y p.0 hy hp) ∙ no_part (node y) y t u) (
    (calm, (tt, (put_same (put a.status p.0 (asked (store y v))) p.0 (acted lost), tt))),
    record { vals = M.vals; sets = M.sets; calls = calls },
  )
    where
      at_rest : Unlinked t y → standing m.values t.phase t ≡ quiet
      at_rest (idle q) = rw q
      at_rest (elsewhere q n) = rw q

      calm : a.status p.0 ≡ quiet
      calm = sym (M.calls p.0 hp) ∙ at_rest u

      calls : (q : ℕ) → q < m.p → standing m.values (task m q).phase (task m q) ≡ put (put (put a.status p.0 (asked (store y v))) p.0 (acted lost)) p.0 quiet q
      calls q hq = elim (ℕ_discrete q p.0) [
        | yes w ↦ rw (w, eq-eqb p.0 p.0 refl) (at_rest u)
        | no n ↦ rw (ne_eqb q p.0 n) (M.calls q hq)
      ]

-- one entry, whatever its bytes
pub entry-fits : (m : Machine) (e : List ℕ) (a : State) → Kept m → Matches m a → Follows a (events_of m e) × Matches (apply_of m e).machine (after_all a (events_of m e))
unfolding events_of
entry-fits m e a K M =
    by_entry m e (λ r. Follows a (events_in acts_from r.answer m r.machine e) × Matches r.machine (after_all a (events_in acts_from r.answer m r.machine e)))
    (λ i r w. (tt, M))
    (λ k h. rw (k.kind, k.kind) (begin_fits m K (task_no e) k.task a M 0 (load (get_or e 4 0)) _ k.phase refl (λ y. refl) refl))
    (λ k h. rw (k.kind, k.kind) (begin_fits m K (task_no e) k.task a M 6 (store (get_or e 4 0) (word_at e 6)) _ k.phase refl (λ y. refl) (rw h)))
    (λ k. rw (events-whole acts_from m m e k.kind) (lost-fits m K (task_no e) k.task a M (get_or e 4 0) (word_at e 6) k.cell k.link))
    (λ k. rw (k.kind, k.kind) (begin_fits m K (task_no e) k.task a M 6 (release (task m (get_or e 2 0)).cell.0) _ k.phase refl (λ y. refl) refl))
    (λ k. rw (k.kind, k.kind) (begin_fits m K (task_no e) k.task a M 6 (validate (task m (get_or e 2 0)).cell.0) _ k.phase refl (λ y. refl) refl))
    (λ d s. rw (s.kind, put_here m K d.task s.task) (step_fits m K (task_no e) s.task a M d s.does))
