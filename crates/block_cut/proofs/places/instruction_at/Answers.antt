use Rattle.std.proofs.Common.{Some, sym, ◌∙◌}
use Rattle.block_cut.proofs.Standing.{read_here, bytes_here, inside}
use Rattle.block_cut.proofs.places.instruction_at.Goals as goal

pub returns-in_default-clause-inst : goal.returns-in_default-clause-inst
returns-in_default-clause-inst c = sym c.in_default.is ∙ read_here c.args.exe.now c.args.at c.exec_bytes-count.result _ c.exec_bytes-count.new.into _ c.encoding_length.ensures c.fifteen_bytes_decide.ensures c.exec_bytes-count.ensures.count c.exec_bytes-count.ensures.bytes c.decode.ensures.listed

pub returns-clause-inst : goal.returns-clause-inst
returns-clause-inst c = sym c.in-Some.is ∙ read_here c.args.exe.now c.args.at c.exec_bytes-count.result _ c.exec_bytes-count.new.into _ c.encoding_length.ensures c.fifteen_bytes_decide.ensures c.exec_bytes-count.ensures.count c.exec_bytes-count.ensures.bytes c.decode.ensures.listed

pub returns-clause-inside : goal.returns-clause-inside
returns-clause-inside c = inside c.args.exe.now c.args.at (Some (c.in-Some.inst, c.in-Some.len)) c.encoding_length.ensures c.requires (sym c.in-Some.is ∙ read_here c.args.exe.now c.args.at c.exec_bytes-count.result _ c.exec_bytes-count.new.into _ c.encoding_length.ensures c.fifteen_bytes_decide.ensures c.exec_bytes-count.ensures.count c.exec_bytes-count.ensures.bytes c.decode.ensures.listed)

pub returns-clause-bytes : goal.returns-clause-bytes
returns-clause-bytes c = bytes_here c.args.exe.now c.args.at c.exec_bytes-count.result c.in-Some.len _ c.exec_bytes-count.new.into c.exec_bytes-count.ensures.count c.exec_bytes-count.ensures.bytes c.in-Some.ensures.found.0
