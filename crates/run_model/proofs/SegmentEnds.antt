-- Where the segments of an executable end.
use Rattle.std.proofs.Common.{ℕ, ◌+◌, ◌≤◌, List, [], ◌∷◌, arith}
use Rattle.elf_read.specs.declared.exe.Segment.{Segment}
use Rattle.elf_read.specs.Elf.{AreSegments, Ascend, end_of_last}

-- a segment ends at or below the end of the last one
pub below_end : (low : ℕ) (s : Segment) (ss : List Segment) → AreSegments low ss → Ascend (s.start + s.size) ss → s.start + s.size ≤ end_of_last (s ∷ ss)
below_end low s [] a o = omega arith
below_end low s (t ∷ ss) a o = omega (arith, below_end low t ss a.1 o.1, o.0, a.0.some)

pub end_of_tail : (s : Segment) (ss : List Segment) (start : ℕ) → end_of_last (s ∷ ss) ≤ start → end_of_last ss ≤ start
end_of_tail s [] start h = omega arith
end_of_tail s (t ∷ ss) start h = h

pub end_high : (low : ℕ) (ss : List Segment) → AreSegments low ss → end_of_last ss ≤ 0xA0000000
end_high low [] a = omega arith
end_high low (s ∷ []) a = a.0.high
end_high low (s ∷ t ∷ ss) a = end_high low (t ∷ ss) a.1
