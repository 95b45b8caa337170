use Rattle.std.proofs.Common.{◌≡◌, ◌+◌, ◌<◌, length, drop, ap, arith, rules}
use Rattle.script_text.specs.Split.{lines_of}
use Rattle.asm_text.specs.Source.{rows_of}
use Rattle.asm_text.specs.Reads.{seen_form, size_of_rows, end_at}
use Rattle.asm_text.proofs.Places.{next_rows, next_end, fewer}
use Rattle.asm_text.proofs.rows.Place.next_row.Goals as goal

pub returns-clause-rows : goal.returns-clause-rows
returns-clause-rows c =
    let p = c.args.self.now in
    (next_rows p.number p.at c.line_length-count.result c.size_in.result p.rest.now c.behind_line-self.result.now (seen_form c.form_of-form.result) (grind arith) c.line_length-count.ensures.value (search rules) c.size_in.ensures.size c.behind_line-self.ensures, c.form_of-form.ensures.valid)

pub returns-clause-ends : goal.returns-clause-ends
returns-clause-ends c =
    let p = c.args.self.now in
    next_end p.number p.at c.line_length-count.result c.size_in.result p.rest.now c.behind_line-self.result.now (seen_form c.form_of-form.result) (grind arith) c.line_length-count.ensures.value (search rules) c.size_in.ensures.size c.behind_line-self.ensures

pub returns-clause-room : goal.returns-clause-room
returns-clause-room c =
    let p = c.args.self.now in
    let some : 0 < length p.rest.now = grind arith in
    let less : length (drop (c.line_length-count.result + 1) p.rest.now) < length p.rest.now = fewer c.line_length-count.result p.rest.now some in
    let left : length c.behind_line-self.result.now ≡ length (drop (c.line_length-count.result + 1) p.rest.now) = ap length c.behind_line-self.ensures in
    let e : p.at + c.size_in.result + size_of_rows (rows_of (p.number + 1) (p.at + c.size_in.result) (lines_of c.behind_line-self.result.now)) ≡ end_at p =
    next_end p.number p.at c.line_length-count.result c.size_in.result p.rest.now c.behind_line-self.result.now (seen_form c.form_of-form.result) some c.line_length-count.ensures.value (search rules) c.size_in.ensures.size c.behind_line-self.ensures in
    record { lines = omega (arith, c.requires.lines, less, left); bytes = omega (arith, c.requires.bytes, e) }
