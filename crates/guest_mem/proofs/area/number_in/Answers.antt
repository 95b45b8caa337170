use Rattle.std.proofs.Common.{◌+◌, ◌≤◌, length, sym, arith}
use Rattle.std.specs.Prelude.{slice_index_or}
use Rattle.guest_mem.proofs.Lists.{get-any}
use Rattle.guest_mem.proofs.Numbers.{number_of-1, number_of-2, number_of-4}
use Rattle.guest_mem.proofs.area.number_in.Goals as goal

pub returns-in-B8-clause-value : goal.returns-in-B8-clause-value
returns-in-B8-clause-value c =
    let bs = c.args.bytes.now in
    let k = c.args.at in
    let l : k + 1 ≤ length bs = rw c.in-B8.is at c.requires in
    let x = slice_index_or bs k 0 in
    rw c.in-B8.is (sym (number_of-1 bs k x l (get-any bs k 0 x (omega (arith, l)))))

pub returns-in-B16-clause-value : goal.returns-in-B16-clause-value
returns-in-B16-clause-value c =
    let bs = c.args.bytes.now in
    let k = c.args.at in
    let l : k + 2 ≤ length bs = rw c.in-B16.is at c.requires in
    let x = slice_index_or bs k 0 in
    let y = slice_index_or bs (k + 1) 0 in
    let e = number_of-2 bs k x y l (get-any bs k 0 x (omega (arith, l))) (get-any bs (k + 1) 0 y (omega (arith, l))) in
    rw c.in-B16.is (omega (arith, e, c.from_le_bytes.ensures))

pub returns-in-B32-clause-value : goal.returns-in-B32-clause-value
returns-in-B32-clause-value c =
    let bs = c.args.bytes.now in
    let k = c.args.at in
    let l : k + 4 ≤ length bs = rw c.in-B32.is at c.requires in
    let x = slice_index_or bs k 0 in
    let y = slice_index_or bs (k + 1) 0 in
    let z = slice_index_or bs (k + 2) 0 in
    let w = slice_index_or bs (k + 3) 0 in
    let e = number_of-4 bs k x y z w l (get-any bs k 0 x (omega (arith, l))) (get-any bs (k + 1) 0 y (omega (arith, l))) (get-any bs (k + 2) 0 z (omega (arith, l))) (get-any bs (k + 3) 0 w (omega (arith, l))) in
    rw c.in-B32.is (omega (arith, e, c.from_le_bytes-in-B32.ensures))
