use Rattle.std.proofs.Common.{◌≡◌, ◌-◌, length, ◌∙◌, ap, arith}
use Rattle.br_word.specs.Memory.{Region, covers, put_over, zeros}
use Rattle.guest_mem.proofs.Numbers.{length-zeros}
use Rattle.guest_mem.proofs.Copies.{covers-true, zeros-front}
use Rattle.guest_mem.proofs.area.Area.segment.Goals as goal

pub copy_in-requires-clause-inside : goal.copy_in-requires-clause-inside
copy_in-requires-clause-inside c =
    let s = c.args.segment.now in
    let n = length c.as_slice.result.now in
    let l : n ≡ length s.bytes = ap (λ bs. length bs) c.as_slice.ensures in
    ap (λ (r : Region). covers r s.start n) c.in_ok-area.ensures
    ∙ covers-true (record { start = s.start; perms = s.perms; bytes = zeros s.size }) s.start n (omega arith) (omega (arith, l, c.requires, length-zeros s.size))

pub returns : goal.returns
returns c =
    let s = c.args.segment.now in
    let none : s.start - s.start ≡ 0 = omega arith in
    c.copy_in.ensures
    ∙ (ap (λ (r : Region). let t : Region = record r { bytes = put_over r.bytes (s.start - r.start) c.as_slice.result.now } in t) c.in_ok-area.ensures
    ∙ ap (λ bs. let t : Region = record { start = s.start; perms = s.perms; bytes = bs } in t)
    (ap (λ bs. put_over (zeros s.size) (s.start - s.start) bs) c.as_slice.ensures ∙ zeros-front s.size (s.start - s.start) s.bytes c.requires none))
