use Rattle.std.proofs.Common.{◌≡◌, length, arith}
use Rattle.lift_alu.specs.Making.{rowed, atom_of}
use Rattle.lift_alu.proofs.Outs.{spot_read}
use Rattle.lift_alu.proofs.row.Row.current.Goals as goal

pub returns-then-at-lt-REGISTERS : goal.returns-then-at-lt-REGISTERS
unfolding rowed atom_of
returns-then-at-lt-REGISTERS c =
    let z : length c.args.self.now.outs ≡ 14 = omega arith in
    spot_read c.args.spot c.args.self.now.outs c.index_of-at.result _ z c.index_of-at.ensures c.if-at-lt-REGISTERS.true
