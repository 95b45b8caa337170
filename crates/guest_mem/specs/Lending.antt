-- What a page lends.
use Rattle.std.specs.Prelude.{ℕ, List}
use Rattle.std.specs.Borrow.{Lends, MutBor, Fml, Array, u8}
use Rattle.std.specs.Vec.{with_items_from}
use Rattle.guest_mem.specs.declared.area.Page.{Page}
use Rattle.guest_mem.specs.contracts.area.Page.{the_row}

-- a page with w over its bytes from an offset
abbrev pub page_with : Page → ℕ → List ℕ → Page
page_with p from w = record p { bytes = with_items_from p.bytes from w }

-- a page ends with the last value behind r over its bytes
abbrev pub LendsBytes : MutBor Page → ℕ → MutBor (List ℕ) → Fml
LendsBytes p from r = Lends the_row (Array u8 0) p r (page_with p.now from)
