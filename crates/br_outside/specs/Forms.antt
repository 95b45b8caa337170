-- What the forms in memory tell of themselves.
use Rattle.std.specs.Prelude.{ℕ, List, drop, Some, Result, Ok, Err, Bool, true, false}
use Rattle.br_outside.specs.Files.{Files, found}
use Rattle.br_outside.specs.Outside.{ShelfView, StreamView}
use Rattle.br_outside.specs.declared.failing.Failing.{Failing}
use Rattle.br_outside.specs.declared.shelves.MemShelf.{MemShelf}
use Rattle.br_outside.specs.declared.shelves.CalmShelf.{CalmShelf}
use Rattle.br_outside.specs.declared.sources.MemSource.{MemSource}
use Rattle.br_outside.specs.declared.sources.CalmSource.{CalmSource}
use Rattle.br_outside.specs.declared.sinks.MemSink.{MemSink}
use Rattle.br_outside.specs.declared.sinks.CalmSink.{CalmSink}
use Rattle.br_outside.specs.declared.errors.ShelfError.{ShelfError}
use Rattle.br_outside.specs.declared.errors.ShelfError.TheVariants as shelf_errors
use Rattle.br_outside.specs.declared.errors.StoreError.{StoreError}
use Rattle.br_outside.specs.declared.errors.StoreError.TheVariants as store_errors
use Rattle.br_outside.specs.declared.errors.SinkError.{SinkError}
use Rattle.br_outside.specs.declared.errors.SinkError.TheVariants as sink_errors

-- what a shelf in memory holds under each name
abbrev pub mem_files : MemShelf → Files
mem_files s = found s.files.items

-- the same of a calm shelf
abbrev pub calm_files : CalmShelf → Files
calm_files s = found s.files.items

-- what a source in memory has left
abbrev pub mem_left : MemSource → List ℕ
mem_left s = drop s.at s.bytes.items

-- the same of a calm source
abbrev pub calm_left : CalmSource → List ℕ
calm_left s = drop s.at s.bytes.items

-- what was written to a sink in memory
abbrev pub mem_written : MemSink → List ℕ
mem_written s = s.bytes.items

-- the same of a calm sink
abbrev pub calm_written : CalmSink → List ℕ
calm_written s = s.bytes.items

-- which calls of an object fail, and how many were made
abbrev pub shelf_calls : MemShelf → Failing
shelf_calls s = s.failing

-- the same of a source
abbrev pub source_calls : MemSource → Failing
source_calls s = s.failing

-- the same of a sink
abbrev pub sink_calls : MemSink → Failing
sink_calls s = s.failing

-- the objects as the traits see them
abbrev pub mem_shelf_view : MemShelf → ShelfView
mem_shelf_view s = record { files = Some (mem_files s); faults = s.failing.faults; calm = false }

-- a calm shelf
abbrev pub calm_shelf_view : CalmShelf → ShelfView
calm_shelf_view s = record { files = Some (calm_files s); faults = s.faults; calm = true }

-- a source whose calls may fail
abbrev pub mem_source_view : MemSource → StreamView
mem_source_view s = record { bytes = Some (mem_left s); faults = s.failing.faults; calm = false }

-- a calm source, whose count is always 0
abbrev pub calm_source_view : CalmSource → StreamView
calm_source_view s = record { bytes = Some (calm_left s); faults = 0; calm = true }

-- a sink whose calls may fail
abbrev pub mem_sink_view : MemSink → StreamView
mem_sink_view s = record { bytes = Some (mem_written s); faults = s.failing.faults; calm = false }

-- a calm sink, whose count is always 0
abbrev pub calm_sink_view : CalmSink → StreamView
calm_sink_view s = record { bytes = Some (calm_written s); faults = 0; calm = true }

-- whether the answer is Failed
abbrev pub fetch_failed : {T : Type 0} → Result T ShelfError → Bool
fetch_failed (Ok _) = false
fetch_failed (Err shelf_errors.Failed) = true
fetch_failed (Err shelf_errors.TooLong) = false
fetch_failed (Err shelf_errors.Memory) = false

-- the same of a store
abbrev pub store_failed : Result (Unit {0}) StoreError → Bool
store_failed (Ok _) = false
store_failed (Err store_errors.Failed) = true
store_failed (Err store_errors.Memory) = false

-- the same of a give
abbrev pub give_failed : Result (Unit {0}) SinkError → Bool
give_failed (Ok _) = false
give_failed (Err sink_errors.Failed) = true
give_failed (Err sink_errors.Memory) = false
