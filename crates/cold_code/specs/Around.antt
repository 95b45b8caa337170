-- The starts around a piece, as the code has them: two ascending lists, and how copies are named.
use Rattle.std.specs.Prelude.{ℕ}
use Rattle.std.specs.List.Sorted.{IsStrictlyIncreasing}
use Rattle.ia_encode.specs.declared.item.Dest.{Dest}
use Rattle.ia_encode.specs.declared.item.Dest.TheVariants as dests
use Rattle.block_cut.specs.Transfers.{is_among}
use Rattle.cold_code.specs.declared.members.Naming.{Naming}
use Rattle.cold_code.specs.declared.members.Naming.TheVariants.{Labels, Blocks}
use Rattle.cold_code.specs.declared.members.Starts.{Starts}
use Rattle.cold_code.specs.Copies.{Around}

abbrev pub named : Naming → ℕ → Dest
named Labels x = dests.Label x
named Blocks x = dests.Block x

abbrev pub around : Starts → Around
around s = record { is_start = is_among s.blocks.now; is_cold = is_among s.copies.now; to = named s.naming }

abbrev pub AreAscending : Starts → Type 0
AreAscending s = IsStrictlyIncreasing s.blocks.now × IsStrictlyIncreasing s.copies.now
