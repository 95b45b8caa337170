use Rattle.std.proofs.Common.{◌≡◌, List, length, string_bytes, IfOk, arith, ◌∙◌, subst}
use Rattle.elf_read.proofs.Accepted.{original_is_guest}
use Rattle.top_demo.proofs.Limits.{limits, file_fits, file_reads, exe_is, graph_fits, code_fits, image_is, image_fits, image_reads}
use Rattle.top_demo.proofs.LineMade.{rebuilt_is, made_line}
use Rattle.top_demo.proofs.command.demo_line.Goals as goal

pub read_accepted-requires-clause-short : goal.read_accepted-requires-clause-short
read_accepted-requires-clause-short c =
    file_fits c.args.count 1000000 _ (limits c.demo_fits.ensures c.args.count c.requires.some c.requires.few) (c.deref.ensures.value ∙ c.in_ok-file.ensures)

pub read_accepted-requires-clause-accepted : goal.read_accepted-requires-clause-accepted
read_accepted-requires-clause-accepted c =
    file_reads c.args.count 1000000 _ (limits c.demo_fits.ensures c.args.count c.requires.some c.requires.few) (c.deref.ensures.value ∙ c.in_ok-file.ensures)

pub follow-requires-clause-guest : goal.follow-requires-clause-guest
follow-requires-clause-guest c = original_is_guest c.in_ok-exe.exe c.in_ok-exe.ensures.fields

pub rebuild-requires-clause-few : goal.rebuild-requires-clause-few
rebuild-requires-clause-few c =
    let l = limits c.demo_fits.ensures c.args.count c.requires.some c.requires.few in
    graph_fits c.args.count 1000000 c.in_ok-exe.exe _ l (exe_is c.args.count 1000000 _ _ l (c.deref.ensures.value ∙ c.in_ok-file.ensures) c.in_ok-exe.ensures.read) c.in_ok-first.ensures.edges

pub rebuild-requires-clause-short : goal.rebuild-requires-clause-short
rebuild-requires-clause-short c =
    let l = limits c.demo_fits.ensures c.args.count c.requires.some c.requires.few in
    code_fits c.args.count 1000000 c.in_ok-exe.exe _ l (exe_is c.args.count 1000000 _ _ l (c.deref.ensures.value ∙ c.in_ok-file.ensures) c.in_ok-exe.ensures.read) c.in_ok-first.ensures.edges

pub read_accepted-requires-2-clause-short : goal.read_accepted-requires-2-clause-short
read_accepted-requires-2-clause-short c =
    let l = limits c.demo_fits.ensures c.args.count c.requires.some c.requires.few in
    let e = exe_is c.args.count 1000000 _ _ l (c.deref.ensures.value ∙ c.in_ok-file.ensures) c.in_ok-exe.ensures.read in
    image_fits c.args.count 1000000 _ l (image_is c.args.count 1000000 _ _ _ _ e c.in_ok-first.ensures.edges c.in_ok-built.ensures c.as_slice.ensures)

pub read_accepted-requires-2-clause-accepted : goal.read_accepted-requires-2-clause-accepted
read_accepted-requires-2-clause-accepted c =
    let l = limits c.demo_fits.ensures c.args.count c.requires.some c.requires.few in
    let e = exe_is c.args.count 1000000 _ _ l (c.deref.ensures.value ∙ c.in_ok-file.ensures) c.in_ok-exe.ensures.read in
    image_reads c.args.count 1000000 _ l (image_is c.args.count 1000000 _ _ _ _ e c.in_ok-first.ensures.edges c.in_ok-built.ensures c.as_slice.ensures)

pub returns : goal.returns
returns c =
    let l = limits c.demo_fits.ensures c.args.count c.requires.some c.requires.few in
    let e = exe_is c.args.count 1000000 _ _ l (c.deref.ensures.value ∙ c.in_ok-file.ensures) c.in_ok-exe.ensures.read in
    let sized : c.len.result ≡ length c.in_ok-file.file.items = omega (arith, c.len.ensures, c.in_ok-file.file.ok.0) in
    let made = made_line c.args.count c.len.result c.in_ok-file.file.items c.in_ok-exe.exe c.in_ok-first.first.edges c.in_ok-built.built c.in_ok-rebuilt.rebuilt c.in_ok-first.first.shown c.in_ok-second.second c.as_str.result.now
    (record {
      is_file = c.in_ok-file.ensures;
      is_exe = e;
      is_trace = c.in_ok-first.ensures.edges;
      is_built = c.in_ok-built.ensures;
      is_rebuilt = rebuilt_is _ _ c.in_ok-rebuilt.rebuilt c.as_slice.ensures c.in_ok-rebuilt.ensures.read;
      first_run = c.in_ok-first.ensures.shown;
      second_run = c.in_ok-second.ensures;
    }) sized (c.as_str.ensures.value ∙ c.in_ok-rest.ensures) in
    let P : List _ → Type 0 = λ text. IfOk c.line_text.result (λ line. string_bytes line ≡ text) in
    subst P made c.line_text.ensures
