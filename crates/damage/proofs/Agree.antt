-- `==` on machine records, as it is derived, answers true exactly where they are the same: what the program prints as kept is what it was. Assumes nothing.
use mathlib.Core.Path.{◌≡◌, ap, refl}
use Rattle.std.specs.Bool.{Decides}
use Rattle.std.proofs.lemmas.Bool.Decides.{Decides-and, Decides-eqb, Decides-like}
use Rattle.std.proofs.lemmas.Slice.Eq.{slice_eq-Decides}
use Rattle.tasks.specs.declared.Task.{Task}
use Rattle.tasks.specs.contracts.TaskPartialEq.TheImpl.{eq-value as task_eq}
use Rattle.cells.specs.declared.Machine.{Machine}
use Rattle.cells.specs.contracts.MachinePartialEq.TheImpl.{eq-value as machine_eq}

task-same : (t u : Task) → Decides (task_eq.it t u) (t ≡ u)
task-same t u =
    Decides-like _
    (λ (p, (x, (y, (m, (o, k))))). λ i. record { phase = p i; cell = record { 0 = x i }; value = y i; held = record { 0 = m i }; own = record { 0 = o i }; cursor = record { 0 = k i } })
    (λ e. (ap (λ v. v.phase) e, (ap (λ v. v.cell.0) e, (ap (λ v. v.value) e, (ap (λ v. v.held.0) e, (ap (λ v. v.own.0) e, ap (λ v. v.cursor.0) e))))))
    (Decides-and _ _ (Decides-eqb t.phase u.phase)
    (Decides-and _ _ (Decides-eqb t.cell.0 u.cell.0)
    (Decides-and _ _ (Decides-eqb t.value u.value)
    (Decides-and _ _ (Decides-eqb t.held.0 u.held.0)
    (Decides-and _ _ (Decides-eqb t.own.0 u.own.0) (Decides-eqb t.cursor.0 u.cursor.0))))))

pub machine-same : (a b : Machine) → Decides (machine_eq.it a b) (a ≡ b)
machine-same a b =
    Decides-like _
    (λ (n, (p, (k, (f, (x, (y, (c, t))))))). λ i. record { n = n i; p = p i; k = k i; free = f i; cells = x i; values = y i; counts = c i; tasks = t i })
    (λ e. (ap (λ m. m.n) e, (ap (λ m. m.p) e, (ap (λ m. m.k) e, (ap (λ m. m.free) e, (ap (λ m. m.cells) e, (ap (λ m. m.values) e, (ap (λ m. m.counts) e, ap (λ m. m.tasks) e))))))))
    (Decides-and _ _ (Decides-eqb a.n b.n)
    (Decides-and _ _ (Decides-eqb a.p b.p)
    (Decides-and _ _ (Decides-eqb a.k b.k)
    (Decides-and _ _ (Decides-eqb a.free b.free)
    (Decides-and _ _ (slice_eq-Decides Decides-eqb a.cells b.cells _ refl)
    (Decides-and _ _ (slice_eq-Decides Decides-eqb a.values b.values _ refl)
    (Decides-and _ _ (slice_eq-Decides Decides-eqb a.counts b.counts _ refl) (slice_eq-Decides task-same a.tasks b.tasks _ refl))))))))
