-- The system calls of int 0x80: the number in eax, the arguments in ebx, ecx and edx, the answer in eax (System V ABI of the
-- i386 Linux kernel: exit 1, read 3, write 4, brk 45; errors are negative numbers of errno, modulo 2 ^ 32).
use Rattle.std.specs.Prelude.{ℕ, ◌+◌, ◌-◌, ◌%◌, ◌^◌, nat_eq, nat_le, ◌&&◌, if◌then◌else◌, List, [], ◌++◌, map, length, take, drop, set, Option, Some, None, option_map}
use Rattle.br_word.specs.declared.types.GuestFault.{GuestFault}
use Rattle.br_word.specs.declared.types.GuestFault.TheVariants.{Access}
use Rattle.br_word.specs.Memory.{Region, Reads, bytes_at, written, resized}
use Rattle.br_word.specs.State.{State, Exited, eax, ecx, edx, ebx}

-- where a step leads: on to a state, or to a fault
pub data StepResult : Type 0 where
  On : State → StepResult
  Bad : GuestFault → StepResult

-- a buffer that memory does not allow is a fault at its first address
abbrev pub or_bad : {X : Type 0} → ℕ → Option X → (X → StepResult) → StepResult
or_bad at None go = Bad (Access at)
or_bad at (Some x) go = go x

-- eax answers, and the guest goes on at this address
abbrev pub answers : ℕ → ℕ → State → State
answers value next s = record s { eip = next; cpu = record (s.cpu) { regs = set s.cpu.regs 0 value } }

-- the bytes of a buffer that is written out; none need to be there for none
abbrev pub buffer : ℕ → ℕ → List Region → Option (List ℕ)
buffer at n rs = if nat_eq n 0 then Some [] else option_map (λ bs. take n bs) (bytes_at Reads at n rs)

-- the regions after a buffer is filled
abbrev pub filled : ℕ → List ℕ → List Region → Option (List Region)
filled at new rs = if nat_eq (length new) 0 then Some rs else written at new rs

-- exit: the status is ebx modulo 256
abbrev pub call_exit : ℕ → State → StepResult
call_exit next s = On (record s { eip = next; stop = Exited (ebx s % 256) })

-- read from descriptor 0 to ecx, at most edx bytes; another descriptor answers -9
abbrev pub call_read : ℕ → State → StepResult
call_read next s =
    let new = take (edx s) s.input in
    if nat_eq (ebx s) 0
    then or_bad (ecx s) (filled (ecx s) new s.regions) (λ rs.
    On (record (answers (length new) next s) { regions = rs; input = drop (length new) s.input }))
    else On (answers (2 ^ 32 - 9) next s)

-- write edx bytes from ecx to descriptor 1 or 2; another descriptor answers -9
abbrev pub call_write : ℕ → State → StepResult
call_write next s =
    let piece = buffer (ecx s) (edx s) s.regions in
    if nat_eq (ebx s) 1
    then or_bad (ecx s) piece (λ bs. On (record (answers (edx s) next s) { out = s.out ++ bs }))
    else if nat_eq (ebx s) 2
    then or_bad (ecx s) piece (λ bs. On (record (answers (edx s) next s) { err = s.err ++ bs }))
    else On (answers (2 ^ 32 - 9) next s)

-- brk to ebx, which is left where ebx is out of reach; the answer is the break afterwards
abbrev pub call_brk : ℕ → State → StepResult
call_brk next s =
    let to = ebx s in
    if nat_le s.brk_start to && nat_le to (s.brk_start + 67108864)
    then On (record (answers to next s) { brk = to; regions = map (resized s.brk_start (to - s.brk_start)) s.regions })
    else On (answers s.brk next s)

-- a system call, with the address after it; an unknown number answers -38
unfoldable pub system : ℕ → State → StepResult
system next s =
    let number = eax s in
    if nat_eq number 1 then call_exit next s else
    if nat_eq number 3 then call_read next s else
    if nat_eq number 4 then call_write next s else
    if nat_eq number 45 then call_brk next s else
    On (answers (2 ^ 32 - 38) next s)
