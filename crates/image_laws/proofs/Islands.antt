-- At a native instruction all virtual registers are live.
use Rattle.std.proofs.Common.{◌≡◌, ℕ, ◌<◌, true, List, ap, ◌∙◌}
use Rattle.elf_read.specs.declared.exe.Exe.{Exe}
use Rattle.run_model.specs.Edges.{Edge}
use Rattle.block_cut.specs.Blocks.{size_of, block_of}
use Rattle.ssa_form.specs.declared.form.Exit.{Exit}
use Rattle.ssa_form.specs.declared.form.Exit.TheVariants.{Island}
use Rattle.pass_dead.specs.Names as dead
use Rattle.pass_dead.specs.Needed.{pruned}
use Rattle.pass_copy.specs.Folded.{folded}
use Rattle.live_flow.specs.declared.row.LiveRow.{LiveRow}
use Rattle.live_flow.specs.Rows.{uses_of}
use Rattle.live_flow.specs.Live.{place_of}
use Rattle.live_flow.specs.Laws.{EachRowIsNarrow, NumbersAreClosed}
use Rattle.live_flow.proofs.Bits.{has_all}
use Rattle.block_make.specs.Choices.{ready}
use Rattle.code_layout.specs.Keys.{rows_of, live_of}
use Rattle.code_layout.proofs.LiveRows.{are_narrow}
use Rattle.sim_runs.specs.Recovered.{is_island_end, is_start_of}
use Rattle.image_laws.specs.Coded.{coded_of}
use Rattle.image_laws.proofs.NativeCode.{is_native, native_lifted}
use Rattle.image_laws.proofs.Serving.{row_here}

native_exit : (exe : Exe) (x : ℕ) → is_island_end (block_of exe x).end ≡ true → (ready exe x).exit ≡ Island (size_of (block_of exe x).insts)
unfolding ready
native_exit exe x i = ap (λ b. (pruned (folded b)).exit) (native_lifted exe x (is_native (block_of exe x).end i))

module _ (narrow : EachRowIsNarrow) (closed : NumbersAreClosed) (exe : Exe) (edges : List Edge) where
  pub all_live : (x v : ℕ) → v < 14 → is_start_of exe edges x ≡ true → is_island_end (block_of exe x).end ≡ true → (coded_of exe edges).live x v ≡ true
  unfolding live_of
  all_live x v l start i =
      let rows = rows_of exe edges in
      let used = ap (λ (r : LiveRow). dead.has r.uses v) (row_here exe edges x start) ∙ ap (λ (e : Exit). dead.has (uses_of e (ready exe x)) v) (native_exit exe x i) ∙ has_all v l in
      (closed rows (are_narrow narrow exe edges)).uses (place_of rows x) v used
