-- The step table of document 01 as document 02 changes it (validate; lowering tells what it left; free nodes are kept count of), row by row in
-- their order. Each row gives, for a task's record and the numbers in its sight, a deed: the next record, the one place written, the reply.
use Rattle.std.specs.Prelude.{ℕ, ◌+◌, ◌-◌, ◌%◌, cond, List, [], ◌∷◌, eqb, ltb, get_or, Ok, Err}
use Rattle.tallies.specs.Tally.{bit}
use Rattle.tasks.specs.Records.{node_no, onward, holding, owning, probing}
use Rattle.steps.specs.Types.{Counted, NodeNo, Task, Reply, Moved, Loaded, Took, Lost, Released, Good, Gone, NoStep, Damaged, Answer, Seen, Write, Nothing, Point, Count, Value, Effect}

-- (v + 1) mod k. K is never 0 in a record that is in range; the definition gives 0 there.
unfoldable pub after : ℕ → NodeNo → NodeNo
after k v = node_no (cond (eqb k 0) 0 ((v.0 + 1) % k))

-- how many nodes are free where a count goes from c to d: one more where it comes to 0, one less where it leaves 0
abbrev pub free_after : ℕ → ℕ → ℕ → ℕ
free_after free c d = free + bit (eqb d 0) - bit (eqb c 0)

-- the count of node v goes from c to d, and the number of free nodes with it; the record is damaged where that would go below 0 or above K
unfoldable pub recounted_of : Seen → NodeNo → ℕ → ℕ → Counted
recounted_of s v c d =
    cond (ltb (s.free + bit (eqb d 0)) (bit (eqb c 0))) (Err Damaged)
    (cond (ltb s.nodes (free_after s.free c d)) (Err Damaged)
    (Ok (Count v d (free_after s.free c d), d)))

-- the count c of node v up by 1, and the number then there; a record of P tasks is damaged where it would go past P + 1 (or past a byte, where
-- P is 255), and where `recounted_of` says so
unfoldable pub raised_of : Seen → NodeNo → ℕ → Counted
raised_of s v c = cond (ltb s.tasks c) (Err Damaged) (cond (eqb c 255) (Err Damaged) (recounted_of s v c (c + 1)))

-- the count c of node v down by 1, and the number left behind; the record is damaged where c is 0, and where `recounted_of` says so
unfoldable pub lowered_of : Seen → NodeNo → ℕ → Counted
lowered_of s v c = cond (eqb c 0) (Err Damaged) (recounted_of s v c (c - 1))

abbrev pub does : Task → Write → Reply → Effect
does t w r = Ok (record { task = t; write = w; reply = r })

-- a step that counts: its deed, or refusal 22
abbrev pub counting : Counted → Task → Reply → Effect
counting (Ok (w, n)) t r = does t w r
counting (Err x) t r = Err x

-- the step that goes by the number left: at 1 the task takes m as its own node and its store has ended, else it goes on to S5
abbrev pub leaving : Counted → Task → Effect
leaving (Ok (w, left)) t = cond (eqb left 1) (does (onward (owning t t.held) 0) w Took) (does (onward t 11) w Moved)
leaving (Err x) t = Err x

-- the count of m
abbrev pub raising : Task → Seen → Counted
raising t s = raised_of s t.held s.held_count

abbrev pub lowering : Task → Seen → Counted
lowering t s = lowered_of s t.held s.held_count

abbrev pub Row : Type 0
Row = Task → Seen → Effect

-- 0 idle, 6 linked: no step
abbrev pub none : Row
none t s = Err NoStep

-- 1 L1: m becomes the node of x; 2
abbrev pub l1 : Row
l1 t s = does (onward (holding t s.here) 2) Nothing Moved

-- 2 L2: count of m up by 1; 3
abbrev pub l2 : Row
l2 t s = counting (raising t s) (onward t 3) Moved

-- 3 L3: compare m with the node of x; equal 4, else 5
abbrev pub l3 : Row
l3 t s = cond (eqb t.held.0 s.here.0) (does (onward t 4) Nothing Moved) (does (onward t 5) Nothing Moved)

-- 4 L4: copy node m, load finished; 6
abbrev pub l4 : Row
l4 t s = does (onward t 6) Nothing (Loaded s.held_value)

-- 5 L5: count of m down by 1; 1
abbrev pub l5 : Row
l5 t s = counting (lowering t s) (onward t 1) Moved

-- 7 S1: own node takes Y; 8
abbrev pub s1 : Row
s1 t s = does (onward t 8) (Value t.own t.value) Moved

-- 8 S2: if x is still at m, x points at own node; took 9, else 13
abbrev pub s2 : Row
s2 t s = cond (eqb t.held.0 s.here.0) (does (onward t 9) (Point t.cell t.own) Moved) (does (onward t 13) Nothing Moved)

-- 9 S3: count of m down by 1; if 1 is left, own becomes m, store took; 0, else 11
abbrev pub s3 : Row
s3 t s = leaving (lowering t s) t

-- 11 S5: count of m down by 1; cursor is (m+1) mod K; 12
abbrev pub s5 : Row
s5 t s = counting (lowering t s) (onward (probing t (after s.nodes t.held)) 12) Moved

-- 12 S6: if the cursor's node has count 0: count 1, own is that node, store took; else cursor on by 1 mod K; 0, else 12
abbrev pub s6 : Row
s6 t s =
    cond (eqb s.cursor_count 0) (counting (recounted_of s t.cursor 0 1) (onward (owning t t.cursor) 0) Took)
    (does (onward (probing t (after s.nodes t.cursor)) 12) Nothing Moved)

-- 13 S7: count of m down by 1, store lost; 0
abbrev pub s7 : Row
s7 t s = counting (lowering t s) (onward t 0) Lost

-- 14 R1: count of m down by 1, released; 0
abbrev pub r1 : Row
r1 t s = counting (lowering t s) (onward t 0) Released

-- 15 V1: compare m with the node of x; good or gone, validate finished and the link as it was; 6
abbrev pub v1 : Row
v1 t s = cond (eqb t.held.0 s.here.0) (does (onward t 6) Nothing Good) (does (onward t 6) Nothing Gone)

-- 10, and above 15: there is no such phase
abbrev pub no_phase : Row
no_phase t s = Err Damaged

unfoldable pub rows : List Row
rows = none ∷ l1 ∷ l2 ∷ l3 ∷ l4 ∷ l5 ∷ none ∷ s1 ∷ s2 ∷ s3 ∷ no_phase ∷ s5 ∷ s6 ∷ s7 ∷ r1 ∷ v1 ∷ []

-- what a step does is decided by the phase number
unfoldable pub effect_of : Task → Seen → Effect
effect_of t s = get_or rows t.phase no_phase t s

-- what an effect is answered with, and so its number and value
abbrev pub answer_of : Effect → Answer
answer_of (Err r) = Err r
answer_of (Ok d) = Ok d.reply
