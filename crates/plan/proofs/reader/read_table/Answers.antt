use Rattle.std.proofs.Common.{sym, refl, ap, ◌∙◌, arith}
use Rattle.fields.specs.Bits.{bits}
use Rattle.fields.specs.Readers.{answered}
use Rattle.plan.proofs.Exits.{stopped}
use Rattle.plan.proofs.Loops.{sofar_none, sofar_more, sofar_fails, sofar_all}
use Rattle.plan.proofs.reader.read_table.Goals as goal

pub loop-number-init : goal.loop-number-init
loop-number-init g c = λ reading calls. (sofar_none g.row.N c.args.blank reading c.args.count (bits c.args.bits.now.bytes.now) c.args.bits.now.at, refl)

pub returns-in_err-table : goal.returns-in_err-table
returns-in_err-table g c = λ reading calls.
    let me = c.args.bits.now in
    let i = c.loop-number.number in
    let sofar = c.loop-number.invariant reading calls in
    let told = calls _ _ i c.read.result c.read.ensures in
    let at = c.loop-number.bits.at in
    let read = ap (λ bytes. reading i (bits bytes) at) (sym sofar.1) ∙ sym told.value ∙ ap (λ r. answered r c.read.new.arg2.at) c.in_err-table.was in
    record {
      value = stopped c.from_residual.result c.in_err-table.field-0.0 _ c.from_residual.ensures.1 ∙ sofar_fails g.row.N c.args.blank reading c.args.count (bits me.bytes.now) me.at i c.loop-number.table at _ c.loop-number-test.true sofar.0 read;
      bytes = told.bytes ∙ sofar.1;
    }

pub loop-number-preserved : goal.loop-number-preserved
loop-number-preserved g c = λ reading calls.
    let me = c.args.bits.now in
    let i = c.loop-number.number in
    let sofar = c.loop-number.invariant reading calls in
    let told = calls _ _ i c.read.result c.read.ensures in
    let at = c.loop-number.bits.at in
    let read = ap (λ bytes. reading i (bits bytes) at) (sym sofar.1) ∙ sym told.value ∙ ap (λ r. answered r c.read.new.arg2.at) c.in_ok-table.was in
    (rw c.from.ensures (sofar_more g.row.N c.args.blank reading c.args.count (bits me.bytes.now) me.at i c.loop-number.table at _ c.in_ok-table.field-0 c.loop-number-test.true (omega arith) sofar.0 read), told.bytes ∙ sofar.1)

pub returns : goal.returns
returns g c = λ reading calls.
    let me = c.args.bits.now in
    let sofar = c.loop-number.invariant reading calls in
    record {
      value = sofar_all g.row.N c.args.blank reading c.args.count (bits me.bytes.now) me.at c.loop-number.number c.loop-number.table c.loop-number.bits.at c.loop-number-test.false sofar.0;
      bytes = sofar.1;
    }
