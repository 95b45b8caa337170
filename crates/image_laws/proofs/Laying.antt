-- The file of an original and edges is laid out as the simulation asks.
use Rattle.std.proofs.Common.{◌≡◌, Bool, true, false, ◌&&◌, length, ap, refl, arith}
use Rattle.elf_write.specs.File.{ReadsBack}
use Rattle.block_cut.specs.Blocks.{block_of}
use Rattle.live_flow.specs.Laws.{EachRowIsNarrow, NumbersAreClosed}
use Rattle.code_layout.specs.Linked.{code_of}
use Rattle.code_layout.specs.Image.{code_segment}
use Rattle.sim_runs.specs.Recovered.{is_island_end, is_start_of}
use Rattle.image_laws.specs.Laid.{ImagesLaid, ImagesHold}
use Rattle.image_laws.proofs.Standing.{same_bytes, entry_some}
use Rattle.image_laws.proofs.Islands.{all_live}
use Rattle.image_laws.proofs.NativeCode.{Decodes, native_inside, copied}
use Rattle.image_laws.proofs.Files.{accepted_as, file_long}

and_inv : (a b : Bool) → (a && b) ≡ true → (a ≡ true) × (b ≡ true)
and_inv true true h = (refl, refl)
and_inv true false h = cc
and_inv false b h = cc

pub images_laid : Decodes → ReadsBack → EachRowIsNarrow → NumbersAreClosed → ImagesLaid
images_laid laws reads narrow closed exe edges original room =
    let code = code_of exe edges in
    let some = entry_some laws.lengths exe edges in
    let size = ap length (same_bytes exe edges) in
    record {
      segment = code_segment code;
      accepted = accepted_as exe original code (omega (arith, some)) room reads;
      code = refl;
      low = omega (arith, size, room);
      copied = λ x own rs i. let q = and_inv (is_start_of exe edges x) (is_island_end (block_of exe x).end) i in copied laws exe edges x q.0 q.1 _;
      inside = λ x i. let q = and_inv (is_start_of exe edges x) (is_island_end (block_of exe x).end) i in let l = native_inside laws exe edges x q.0 q.1 in omega (arith, l, room);
      live = λ x v l i. let q = and_inv (is_start_of exe edges x) (is_island_end (block_of exe x).end) i in all_live narrow closed exe edges x v l q.0 q.1;
    }

pub images_hold : ImagesHold
images_hold exe edges = file_long exe (code_of exe edges)
