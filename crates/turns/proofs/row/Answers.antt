-- `row`: each arm carries out the row of its phase.
use Rattle.std.proofs.Common.{◌≡◌, arith}
use Rattle.steps.specs.Table.{rows}
use Rattle.cells.specs.Machine.{seen_of}
use Rattle.turns.proofs.Picks.{picks}
use Rattle.turns.proofs.row.Goals as goal

pub returns-in-1 : goal.returns-in-1
unfolding rows
returns-in-1 c =
    let a = c.args in
    rw (← picks 1 a.t (seen_of a.m.now a.t) _ _ c.in-1.is c.seen.ensures c.l1_step.ensures) c.carry.ensures

pub returns-in-2 : goal.returns-in-2
unfolding rows
returns-in-2 c =
    let a = c.args in
    rw (← picks 2 a.t (seen_of a.m.now a.t) _ _ c.in-2.is c.seen-in-2.ensures c.l2_step.ensures) c.carry-in-2.ensures

pub returns-in-3 : goal.returns-in-3
unfolding rows
returns-in-3 c =
    let a = c.args in
    rw (← picks 3 a.t (seen_of a.m.now a.t) _ _ c.in-3.is c.seen-in-3.ensures c.l3_step.ensures) c.carry-in-3.ensures

pub returns-in-4 : goal.returns-in-4
unfolding rows
returns-in-4 c =
    let a = c.args in
    rw (← picks 4 a.t (seen_of a.m.now a.t) _ _ c.in-4.is c.seen-in-4.ensures c.l4_step.ensures) c.carry-in-4.ensures

pub returns-in-5 : goal.returns-in-5
unfolding rows
returns-in-5 c =
    let a = c.args in
    rw (← picks 5 a.t (seen_of a.m.now a.t) _ _ c.in-5.is c.seen-in-5.ensures c.l5_step.ensures) c.carry-in-5.ensures

pub returns-in-7 : goal.returns-in-7
unfolding rows
returns-in-7 c =
    let a = c.args in
    rw (← picks 7 a.t (seen_of a.m.now a.t) _ _ c.in-7.is c.seen-in-7.ensures c.s1_step.ensures) c.carry-in-7.ensures

pub returns-in-8 : goal.returns-in-8
unfolding rows
returns-in-8 c =
    let a = c.args in
    rw (← picks 8 a.t (seen_of a.m.now a.t) _ _ c.in-8.is c.seen-in-8.ensures c.s2_step.ensures) c.carry-in-8.ensures

pub returns-in-9 : goal.returns-in-9
unfolding rows
returns-in-9 c =
    let a = c.args in
    rw (← picks 9 a.t (seen_of a.m.now a.t) _ _ c.in-9.is c.seen-in-9.ensures c.s3_step.ensures) c.carry-in-9.ensures

pub returns-in-11 : goal.returns-in-11
unfolding rows
returns-in-11 c =
    let a = c.args in
    rw (← picks 11 a.t (seen_of a.m.now a.t) _ _ c.in-11.is c.seen-in-11.ensures c.s5_step.ensures) c.carry-in-11.ensures

pub returns-in-12 : goal.returns-in-12
unfolding rows
returns-in-12 c =
    let a = c.args in
    rw (← picks 12 a.t (seen_of a.m.now a.t) _ _ c.in-12.is c.seen-in-12.ensures c.s6_step.ensures) c.carry-in-12.ensures

pub returns-in-13 : goal.returns-in-13
unfolding rows
returns-in-13 c =
    let a = c.args in
    rw (← picks 13 a.t (seen_of a.m.now a.t) _ _ c.in-13.is c.seen-in-13.ensures c.s7_step.ensures) c.carry-in-13.ensures

pub returns-in-14 : goal.returns-in-14
unfolding rows
returns-in-14 c =
    let a = c.args in
    rw (← picks 14 a.t (seen_of a.m.now a.t) _ _ c.in-14.is c.seen-in-14.ensures c.r1_step.ensures) c.carry-in-14.ensures

pub returns-in_default : goal.returns-in_default
unfolding rows
returns-in_default c =
    let a = c.args in
    let is : a.t.phase ≡ 15 = omega arith in
    rw (← picks 15 a.t (seen_of a.m.now a.t) _ _ is c.seen-in_default.ensures c.v1_step.ensures) c.carry-in_default.ensures
