-- A task that moves alone ends its running call: one induction over the steps that are due. Assumes nothing.
use Rattle.std.specs.Prelude.{Ok, Err}
use Prim.Native.Nat.{ℕ, zero, suc, ◌+◌, ◌-◌, ◌*◌, ◌%◌, ◌≤◌, ◌<◌}
use native.Mathlib.Omega.{arith}
use native.Mathlib.Nat.{mod-lt, add-zero, add_assoc, mod-eq_of_lt, mod-add-mod}
use native.Mathlib.Numerals.{one-add}
use mathlib.Core.Path.{◌≡◌, refl, ap}
use mathlib.Core.Bool.{Bool, true, false, cond, not}
use mathlib.Core.List.{[], ◌∷◌}
use mathlib.Core.Logic.{◌≢◌, ◌⊎◌, inl, inr}
use lib.Dec.{T, eqb, ltb}
use lib.ListN.{get_or}
use lib.Seq.{get_or-set_same}
use borrow.Author.Tests.{eq-eqb, ne_eqb, lt-ltb}
use Rattle.tallies.proofs.Lists.{either}
use Rattle.tallies.specs.Lists.{within}
use Rattle.tallies.specs.Tally.{bit}
use Rattle.tallies.proofs.Tally.{bit_le, total_front, total_round, total_gap}
use Rattle.tallies.proofs.Bounds.{total_last, round_back, round_on}
use Rattle.tasks.specs.Records.{node_no}
use Rattle.tasks.specs.Phases.{resting, storing}
use Rattle.steps.specs.Table.{after, effect_of}
use Rattle.cells.specs.Machine.{seen_of, written, carried_of}
use Rattle.cells.specs.Apply.{apply_of}
use Rattle.laws.specs.Types.{Answer, Moved, NodeNo, Task, Seen, Deed, Effect, Machine}
use Rattle.laws.specs.Kept.{Kept}
use Rattle.laws.specs.Bytes.{go}
use Rattle.laws.specs.Solo.{Finished, Within}
use Rattle.laws.proofs.Phases.{by_phase}
use Rattle.laws.proofs.Entries.{go-steps}
use Rattle.laws.proofs.Keeps.{task, put_here, in_counts}
use Rattle.laws.proofs.Ranges.{in_range_lem}
use Rattle.laws.proofs.Table.{entry-keeps}
use Rattle.laws.proofs.Damage.{Steady, steady}
use Rattle.laws.proofs.Room.{used_less, can_lower}
use Rattle.laws.proofs.Rows.{Moves, l1, l2, l3_passed, l3_turned, l4, l5, s1, s2_swapped, s2_missed, s3_took, s3_shared, s5, s6_took, s6_busy, s7, r1, v1_good, v1_gone, moves}

-- a call is running
abbrev busy : ℕ → Bool
busy f = not (resting f)

-- the steps that a call still has to make, by its phase; a store that probes has its own
abbrev due : Machine → Task → ℕ → ℕ
due m t f =
    let turned = 4 * bit (not (eqb t.held.0 (get_or m.cells t.cell.0 0))) in
    let all = m.n + 2 * m.p in
    get_or (0 ∷ 4 ∷ (3 + turned) ∷ (2 + turned) ∷ 1 ∷ 5 ∷ 0 ∷ (all + 2) ∷ (all + 1) ∷ all ∷ 0 ∷ (all - bit (ltb 0 (get_or m.counts t.held.0 0 - 1))) ∷ 0 ∷ 1 ∷ 1 ∷ 1 ∷ []) f 0

-- a free node is fewer than n places on
abbrev Probes : ℕ → Machine → ℕ → Type 0
Probes n m c = (j : ℕ) × (j < n) × (get_or m.counts ((c + j) % m.k) 0 ≡ 0)

-- n steps are enough
abbrev Enough : ℕ → Machine → Task → ℕ → Type 0
Enough n m t f = cond (eqb f 12) (Probes n m t.cursor.0) ((0 < due m t f) × (due m t f ≤ n))

after_is : (k : ℕ) (v : NodeNo) → 0 < k → after k v ≡ node_no ((v.0 + 1) % k)
unfolding after
after_is k v h = rw (ne_eqb k 0 (omega arith))

-- from behind node v, N + 2P - 1 probes find a free node, and one less where v is not free itself: it is probed last
found : (m : Machine) (K : Kept m) (q : ℕ) → q < m.p → (task m q).phase ≡ 12 → (v : ℕ) → v < m.k
    → Probes (m.n + 2 * m.p - 1 - bit (ltb 0 (get_or m.counts v 0))) m ((v + 1) % m.k)
found m K q hq w v hv =
    let k = m.k in
    let c = (v + 1) % k in
    let g : ℕ → ℕ = λ i. bit (ltb 0 (get_or m.counts i 0)) in
    let f : ℕ → ℕ = λ j. g ((c + j) % k) in
    let last : f (k - 1) ≡ g v = ap g (round_back v k hv) in
    total_gap (λ j. get_or m.counts ((c + j) % k) 0) (m.n + 2 * m.p - 1 - g v)
    (omega (
      arith,
      last,
      total_front f (m.n + 2 * m.p - 1 - g v) (k - 1) (omega (arith, K.sound.room)),
      total_last f k (omega arith),
      total_round g c k (mod-lt (v + 1) (omega arith)),
      used_less m K q hq w,
      K.sound.a_cell,
      K.sound.a_task,
      bit_le (ltb 0 (get_or m.counts v 0)),
    ))

-- a probe that finds a busy node is one less
later : (n : ℕ) (m : Machine) (c : ℕ) → c < m.k → get_or m.counts c 0 ≢ 0 → Probes (suc n) m c → Probes n m ((c + 1) % m.k)
later n m c h ne e = go e.0 e.1 e.2
  where
    go : (j : ℕ) → j < suc n → get_or m.counts ((c + j) % m.k) 0 ≡ 0 → Probes n m ((c + 1) % m.k)
    go zero l z = absurd (ne (rw (add-zero c, mod-eq_of_lt h) at z))
    go (suc j) l z = (j, omega arith, rw (mod-add-mod (c + 1) m.k j, add_assoc c 1 j) (rw (← one-add j) at z))

-- from any place
found_from : (m : Machine) (K : Kept m) (q : ℕ) → q < m.p → (task m q).phase ≡ 12 → (c n : ℕ) → c < m.k → m.n + 2 * m.p ≤ n → Probes n m c
found_from m K q hq w c n hc h =
    let r = rw (round_on c m.k hc) at (found m K q hq w ((c + (m.k - 1)) % m.k) (mod-lt (c + (m.k - 1)) (omega arith))) in (r.0, omega (arith, r.1), r.2)

-- more steps are allowed than are needed
pub more : (n k : ℕ) (m : Machine) (p : ℕ) → n ≤ k → Within n m p → Within k m p
unfolding Within
more zero k m p h w = absurd w
more (suc n) zero m p h w = absurd (omega arith)
more (suc n) (suc k) m p h (inl f) = inl f
more (suc n) (suc k) m p h (inr w) = inr (w.0, more n k (apply_of m (go p)).machine p (omega arith) w.1)

module _ (p : ℕ) where
  abbrev stepped : Machine → Deed → Machine
  stepped m d = written m (record { 0 = p }) d.task d.write

  -- what a step leads to, with n steps left after it
  abbrev Ends : ℕ → Machine → Deed → Type 0
  Ends n m d = Finished (Ok d.reply) ⊎ (◌≡◌ {A = Answer} (Ok d.reply) (Ok Moved) × T (busy d.task.phase) × Enough n (stepped m d) d.task d.task.phase)

  module _ (m : Machine) (K : Kept m) (hp : p < m.p) where
    abbrev t : Task
    t = task m p

    abbrev s : Seen
    s = seen_of m t

    -- a running call is never stuck
    can_step : T (busy t.phase) → (d : Deed) × (effect_of t s ≡ Ok d)
    can_step b = go (effect_of t s) refl (steady m K p hp)
      where
        go : (x : Effect) → effect_of t s ≡ x → Steady m K t.phase x → (d : Deed) × (effect_of t s ≡ Ok d)
        go (Ok d) q w = (d, q)
        go (Err r) q w = absurd (none (resting t.phase) b w.1)
          where
            none : (c : Bool) → T (not c) → T c → ⊥
            none true h k = h
            none false h k = k

    -- by rows
    row : (n f : ℕ) (d : Deed) → t.phase ≡ f → Enough (suc n) m t f → Moves t s f d → Kept (stepped m d) → task (stepped m d) p ≡ d.task → Ends n m d
    row n f d q e l1 K' now = inr (refl, tt, rw (eq-eqb (get_or m.cells t.cell.0 0) _ refl) (omega arith))
    row n f d q e (l2 c) K' now = inr (refl, tt, omega arith)
    row n f d q e (l3_passed c) K' now = inr (refl, tt, omega arith)
    row n f d q e (l3_turned c) K' now = inr (refl, tt, omega (arith, rw (ne_eqb _ _ c) at e))
    row n f d q e l4 K' now = inl tt
    row n f d q e (l5 c) K' now = inr (refl, tt, omega arith)
    row n f d q e s1 K' now = inr (refl, tt, omega arith)
    row n f d q e (s2_swapped c) K' now = inr (refl, tt, omega arith)
    row n f d q e (s2_missed c) K' now = inr (refl, tt, omega arith)
    row n f d q e (s3_took c) K' now = inl tt
    row n f d q e (s3_shared h c) K' now =
        let v = t.held.0 in
        let left = get_or-set_same m.counts v (get_or m.counts v 0 - 1) 0 (in_counts m K (K.sound.each p hp).held) in
        let some : 0 < get_or m.counts v 0 - 1 = rw (now, left) at (can_lower (stepped m d) K' p hp (rw now tt)) in
        inr (refl, tt, rw (left, lt-ltb 0 (get_or m.counts v 0 - 1 - 1) (omega arith)) (omega (arith, K.sound.a_cell, K.sound.a_task)))
    row n f d q e (s5 c) K' now =
        let v = t.held.0 in
        let hv = (K.sound.each p hp).held in
        let r = rw (get_or-set_same m.counts v (get_or m.counts v 0 - 1) 0 (in_counts m K hv)) at (found (stepped m d) K' p hp (ap (λ (y : Task). y.phase) now) v hv) in
        inr (refl, tt, rw (after_is m.k t.held (omega arith)) (r.0, omega (arith, r.1), r.2))
    row n f d q e (s6_took c) K' now = inl tt
    row n f d q e (s6_busy c) K' now =
        let hc = (K.sound.each p hp).cursor in inr (refl, tt, rw (after_is m.k t.cursor (omega arith)) (later n m t.cursor.0 hc c e))
    row n f d q e (s7 c) K' now = inl tt
    row n f d q e (r1 c) K' now = inl tt
    row n f d q e (v1_good c) K' now = inl tt
    row n f d q e (v1_gone c) K' now = inl tt

  solo : (n : ℕ) (m : Machine) → Kept m → p < m.p → T (busy (task m p).phase) → Enough n m (task m p) (task m p).phase → Within n m p
  unfolding Within carried_of
  solo zero m K hp b e =
      either (λ x. cond x (Probes 0 m (task m p).cursor.0) ((0 < due m (task m p) (task m p).phase) × (due m (task m p) (task m p).phase ≤ 0)) → ⊥) (eqb (task m p).phase 12)
      (λ q w. absurd (omega (arith, w.1))) (λ q w. absurd (omega arith)) e
  solo (suc n) m K hp b e =
      let c = can_step m K hp b in
      let d = c.0 in
      let t = task m p in
      let K' : Kept (stepped m d) = rw (go-steps m p (in_range_lem m K) hp, c.1) at (entry-keeps m (go p) K) in
      let now : task (stepped m d) p ≡ d.task = put_here m K d.task hp in
      rw (go-steps m p (in_range_lem m K) hp, c.1)
      (elim (row m K hp n t.phase d refl e (moves t (seen_of m t) d c.1) K' now) [
        | inl f ↦ inl f
        | inr w ↦ inr (w.0, solo n (stepped m d) K' hp (rw now w.1) (rw now w.2))
      ])

  module _ (m : Machine) (K : Kept m) (hp : p < m.p) where
    -- a running load ends within 7 steps
    pub load_solo : T (within 1 5 (task m p).phase) → Within 7 m p
    load_solo b =
        let r = by_phase (λ f. T (within 1 5 f) → T (busy f) × Enough 7 m (task m p) f) (λ k. absurd k) (λ k. (tt, omega arith)) (λ k. (tt, omega (arith, turn)))
        (λ k. (tt, omega (arith, turn))) (λ k. (tt, omega arith)) (λ k. (tt, omega arith)) (λ k. absurd k) (λ k. absurd k) (λ k. absurd k) (λ k. absurd k) (λ k. absurd k)
        (λ k. absurd k) (λ k. absurd k) (λ k. absurd k) (λ k. absurd k) (task m p).phase (K.sound.each p hp).phase b in
        solo 7 m K hp r.0 r.1
      where
        turn : bit (not (eqb (task m p).held.0 (get_or m.cells (task m p).cell.0 0))) ≤ 1
        turn = bit_le (not (eqb (task m p).held.0 (get_or m.cells (task m p).cell.0 0)))

    -- a store ends within N + 2P + 2: the node that it swapped out is not free where it looks for another, and it is probed last
    pub store_sooner : T (storing (task m p).phase) → Within (m.n + 2 * m.p + 2) m p
    store_sooner b =
        let all = m.n + 2 * m.p in
        let r = by_phase (λ f. (task m p).phase ≡ f → T (storing f) → T (busy f) × Enough (all + 2) m (task m p) f)
        (λ q k. absurd k) (λ q k. absurd k) (λ q k. absurd k) (λ q k. absurd k) (λ q k. absurd k) (λ q k. absurd k) (λ q k. absurd k) (λ q k. (tt, omega arith))
        (λ q k. (tt, omega arith)) (λ q k. (tt, omega (arith, K.sound.a_cell)))
        (λ q k. (tt, omega (arith, K.sound.a_cell, K.sound.a_task, bit_le (ltb 0 (get_or m.counts (task m p).held.0 0 - 1)))))
        (λ q k. (tt, found_from m K p hp q (task m p).cursor.0 (all + 2) (K.sound.each p hp).cursor (omega arith)))
        (λ q k. (tt, omega arith)) (λ q k. absurd k) (λ q k. absurd k) (task m p).phase (K.sound.each p hp).phase refl b in
        solo (all + 2) m K hp r.0 r.1

    -- a release ends at its one step
    pub release_solo : (task m p).phase ≡ 14 → Within 1 m p
    release_solo q = solo 1 m K hp (rw q tt) (rw q (omega arith))

    -- and so does a validate
    pub validate_solo : (task m p).phase ≡ 15 → Within 1 m p
    validate_solo q = solo 1 m K hp (rw q tt) (rw q (omega arith))
