use Rattle.std.proofs.Common.{◌≡◌, ◌++◌, ◌+◌, ◌-◌, ◌≤◌, map, take, length}
use Rattle.ia_encode.specs.declared.item.Item.TheVariants as items
use Rattle.ia_encode.proofs.piece.Piece.put_bytes.Given as goal

abbrev pub invariant-loop-byte : goal.invariant-loop-byte
invariant-loop-byte l = (l.self-inside.items.items ≡ l.initial.self-inside.items.items ++ map items.Byte (take l.byte-index l.bytes))
    × (l.self-inside.items.len + (length l.bytes - l.byte-index) ≤ l.self-inside.items.cap)
