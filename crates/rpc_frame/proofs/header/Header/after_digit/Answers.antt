use Rattle.std.proofs.Common.{arith, ◌-◌}
use Rattle.rpc_frame.proofs.Numbers.{ten_times_fits}
use Rattle.rpc_frame.proofs.header.Header.after_digit.Goals as goal

pub overflow_mul-value : goal.overflow_mul-value
overflow_mul-value c =
    let bound = ten_times_fits c.args.count c.args.value 0 c.if-count-ge15.false c.requires.1 (omega arith) in omega (arith, bound)

pub overflow_add-value : goal.overflow_add-value
overflow_add-value c =
    let bound = ten_times_fits c.args.count c.args.value (c.args.byte - 48) c.if-count-ge15.false c.requires.1 (omega (arith, c.if-not-is_ascii_digit.ensures.cases)) in
    omega (arith, bound)
