use Rattle.std.proofs.Common.{◌≡◌, ◌+◌, ◌++◌, [], length, ◌∙◌, ap, arith}
use Rattle.elf_read.specs.declared.exe.Reach.TheVariants.{Guest}
use Rattle.elf_read.specs.Elf.{elf}
use Rattle.elf_write.specs.File.{file_header, file_of}
use Rattle.elf_write.proofs.Loops.{parts, whole_file}
use Rattle.elf_write.proofs.ReadBack.{read_back}
use Rattle.elf_write.proofs.file.write_joined.Goals as goal

pub end_of_pieces-middle-requires : goal.end_of_pieces-middle-requires
end_of_pieces-middle-requires c =
    let p = parts c.args.first.now c.args.rest.now c.args.entry c.requires in
    record { each = p.first; room = omega arith }

pub end_of_pieces-end-requires : goal.end_of_pieces-end-requires
end_of_pieces-end-requires c =
    let p = parts c.args.first.now c.args.rest.now c.args.entry c.requires in
    record { each = p.rest; room = omega arith }

pub push_headers-requires : goal.push_headers-requires
push_headers-requires c =
    let p = parts c.args.first.now c.args.rest.now c.args.entry c.requires in
    record { each = p.first; room = omega arith }

pub push_headers-requires-2 : goal.push_headers-requires-2
push_headers-requires-2 c =
    let p = parts c.args.first.now c.args.rest.now c.args.entry c.requires in
    record { each = p.rest; room = omega arith }

pub push_pieces-requires : goal.push_pieces-requires
push_pieces-requires c =
    let p = parts c.args.first.now c.args.rest.now c.args.entry c.requires in
    record { each = p.first; room = omega arith }

pub push_pieces-requires-2 : goal.push_pieces-requires-2
push_pieces-requires-2 c =
    let p = parts c.args.first.now c.args.rest.now c.args.entry c.requires in
    record { each = p.rest; room = omega arith }

the_file : (c : goal.In_ok-push_pieces-2) → c.push_pieces-2.new.out.items ≡ file_of (c.args.first.now ++ c.args.rest.now) c.args.entry
the_file c = whole_file _ _ _ _ _ c.args.first.now c.args.rest.now _ _ _ c.args.entry (omega arith) (omega arith) c.end_of_pieces-middle.ensures.value
    (c.in_ok-push_file_header.ensures ∙ ap (λ l. l ++ file_header (length c.args.first.now + length c.args.rest.now) c.args.entry []) c.in_ok-out.ensures.items)
    c.in_ok-push_headers.ensures c.in_ok-push_headers-2.ensures c.in_ok-push_pieces.ensures c.in_ok-push_pieces-2.ensures

pub returns-clause-file : goal.returns-clause-file
returns-clause-file c = the_file c

pub returns-clause-read : goal.returns-clause-read
returns-clause-read c = ap (elf Guest) (the_file c) ∙ read_back _ _ c.requires
