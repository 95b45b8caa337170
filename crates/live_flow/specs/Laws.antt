-- What live sets and rows are worth.
use Rattle.std.specs.Prelude.{◌≡◌, ℕ, ◌<◌, ◌≤◌, ◌^◌, ◌↔◌, Bool, true, false, List, length, get_or}
use Rattle.ssa_form.specs.declared.form.TheConstants.{REGISTERS}
use Rattle.ssa_form.specs.declared.form.Block.{Block}
use Rattle.ssa_form.specs.Checked.{checked}
use Rattle.pass_dead.specs.Names.{has}
use Rattle.stub_sink.specs.Splits.{has_fallback, body_of, sunk_of}
use Rattle.stub_sink.specs.Serving.{Feeds, IsSplit}
use Rattle.live_flow.specs.declared.row.LiveRow.{LiveRow}
use Rattle.live_flow.specs.Live.{row_at, ways, any_live, is_live, live_in, Walk, AreLive}
use Rattle.live_flow.specs.Rows.{row_of}

-- a register is live at a row exactly where a walk of at most as many known exits as there are rows leads to where it is needed
abbrev pub LiveIsWalked : Type 0
LiveIsWalked = (rows : List LiveRow) (i v : ℕ) → (is_live rows i v ≡ true) ↔ Walk rows v (length rows) i

-- however long a walk is
abbrev pub WalksAreLive : Type 0
WalksAreLive = (rows : List LiveRow) (n i v : ℕ) → Walk rows v n i → is_live rows i v ≡ true

-- live sets are closed
abbrev pub EachIsClosed : Type 0
EachIsClosed = (rows : List LiveRow) → AreLive rows (is_live rows)

-- the numbers are those sets
abbrev pub NumbersAreSets : Type 0
NumbersAreSets = (rows : List LiveRow) (i v : ℕ) → i < length rows → v < 16 → has (get_or (live_in rows) i 0) v ≡ is_live rows i v

-- closed sets feed the block of a row
abbrev pub LiveFeeds : Type 0
LiveFeeds = (rows : List LiveRow) (sets : ℕ → ℕ → Bool) (b : Block) (i : ℕ) (known : List ℕ) →
    checked b ≡ true → AreLive rows sets → row_at rows i ≡ row_of b known →
    Feeds (sets i) (λ v. any_live sets v (ways rows i)) (has_fallback b.exit known) b

-- so its split serves
abbrev pub FragmentSplits : Type 0
FragmentSplits = (rows : List LiveRow) (b : Block) (i : ℕ) (known : List ℕ) → checked b ≡ true → row_at rows i ≡ row_of b known →
    IsSplit (is_live rows i) (λ v. any_live (is_live rows) v (ways rows i)) (has_fallback b.exit known) b
    (body_of (λ v. any_live (is_live rows) v (ways rows i)) (has_fallback b.exit known) b)
    (sunk_of (λ v. any_live (is_live rows) v (ways rows i)) (has_fallback b.exit known) b)

-- ---- only registers are in sets

abbrev pub IsNarrow : ℕ → Type 0
IsNarrow set = (v : ℕ) → REGISTERS ≤ v → has set v ≡ false

-- rows name only registers
abbrev pub AreNarrow : List LiveRow → Type 0
AreNarrow rows = (i : ℕ) → IsNarrow (row_at rows i).uses × IsNarrow (row_at rows i).passes

-- so do the rows of blocks
abbrev pub EachRowIsNarrow : Type 0
EachRowIsNarrow = (b : Block) (known : List ℕ) → IsNarrow (row_of b known).uses × IsNarrow (row_of b known).passes

-- then the numbers of their sets are small
abbrev pub SetsAreSmall : Type 0
SetsAreSmall = (rows : List LiveRow) (k : ℕ) → AreNarrow rows → get_or (live_in rows) k 0 < 2 ^ REGISTERS

-- and they are closed, as the sets are
abbrev pub NumbersAreClosed : Type 0
NumbersAreClosed = (rows : List LiveRow) → AreNarrow rows → AreLive rows (λ i v. has (get_or (live_in rows) i 0) v)
