use Rattle.std.proofs.Common.{arith}
use Rattle.code_layout.proofs.image.written.Goals as goal
use Rattle.code_layout.proofs.Writable.{writable}

pub write_joined-requires : goal.write_joined-requires
write_joined-requires c =
    let o = c.args.code.ok.0 in
    let s = c.requires.some in
    let t = c.requires.short in
    rw (c.code_segment.ensures, c.private_segment.ensures, c.as_slice.ensures) (writable c.args.exe.now c.args.code.items c.requires.original (omega arith) (omega arith))
