use Rattle.std.proofs.Common.{◌≡◌, ◌++◌, codes, drop, string_bytes}
use Rattle.std.specs.List.{flat_map}
use Rattle.show_text.specs.Listing.{way_line}
use Rattle.show_text.proofs.ways.ways_to_any.Given as goal

abbrev pub invariant-loop-to : goal.invariant-loop-to
invariant-loop-to l = string_bytes l.ways ++ flat_map (way_line (codes "known")) (drop l.to-index l.known) ≡ flat_map (way_line (codes "known")) l.known
