-- The image of an original and edges does what the original does.
use Rattle.std.proofs.Common.{ℕ, ◌≤◌, List, [], length, subst, ⊎_elim}
use Rattle.std.proofs.lemmas.List.{append-nil}
use Rattle.br_word.specs.Memory.{AreBytes}
use Rattle.elf_read.specs.declared.exe.Exe.{Exe}
use Rattle.elf_read.specs.declared.exe.Reach.TheVariants.{Original}
use Rattle.elf_read.specs.Elf.{IsOriginal}
use Rattle.elf_read.proofs.Accepted.{accepted, original_is_guest}
use Rattle.trace_file.specs.Edges.{Edge, IsEdges}
use Rattle.flow_graph.specs.declared.error.TheConstants.{MAX_BLOCKS}
use Rattle.flow_graph.specs.GraphOf.{graph_of}
use Rattle.sim_laws.specs.Preserves.{Preserves}
use Rattle.sim_laws.specs.Covers.{Covers}
use Rattle.code_layout.specs.declared.place.TheConstants.{MAX_CODE}
use Rattle.code_layout.specs.Linked.{itself, code_of}
use Rattle.code_layout.specs.Image.{image}
use Rattle.sim_runs.specs.Promised as promised
use Rattle.sim_runs.specs.Law.{LawsPreserve}
use Rattle.image_laws.specs.Coded.{coded_of}
use Rattle.image_laws.specs.Laid.{ImagesLaid}
use Rattle.image_laws.specs.Law.{ImagesMade}
use Rattle.image_laws.specs.Made.{FragmentsAreMade, EachIsMade}
use Rattle.image_laws.specs.Serves.{HaveBytes}
use Rattle.image_laws.specs.Stands.{CodeStands}
use Rattle.image_laws.specs.Valid.{CodeIsBytes}
use Rattle.build_core.specs.ImageLaw.{ImageLaw}
use Rattle.build_core.proofs.FileBytes.{bytes_or_not, segments_of_bytes}

pub record Parts : Type 0 where
  pub laid : ImagesLaid
  pub meet : ImagesMade
  pub made : FragmentsAreMade
  pub each : EachIsMade
  pub bytes : CodeIsBytes
  pub stands : CodeStands
  pub preserve : LawsPreserve

-- where segments are of bytes, the image has what the simulation asks for
pub image_laws : Parts → (exe : Exe) (edges : List Edge) → IsOriginal exe → HaveBytes exe → IsEdges edges
    → length (graph_of exe edges) ≤ MAX_BLOCKS → length (code_of exe edges) ≤ MAX_CODE
    → promised.Laws exe edges [] (image exe edges) (coded_of exe edges)
image_laws parts exe edges original h set few room =
    let guest = original_is_guest exe original in
    let c = coded_of exe edges in
    let linked = parts.stands.built exe edges room in
    parts.meet exe edges original h room
    (parts.made exe edges itself c h linked (parts.bytes exe edges itself c.code guest h linked.begins) (λ x start native. parts.each exe edges guest h set.order few x start))

-- a file that is not of bytes has no runs to speak of
no_runs : ImagesLaid → (file : List ℕ) (exe : Exe) (edges : List Edge) → IsOriginal exe → length (code_of exe edges) ≤ MAX_CODE
    → (AreBytes file → ⊥) → Preserves file (image exe edges) × Covers file (image exe edges) edges
no_runs laid file exe edges original room wrong =
    let l = laid exe edges original room in (
      record {
        accepted = (promised.laid_exe exe l.segment, l.accepted);
        forward = λ words input choices fit are chosen k defined. absurd (wrong are.file);
        backward = λ words input choices fit are chosen m defined. absurd (wrong are.file);
      },
      record { outside = λ words input choices fit are chosen m defined keeps k below. absurd (wrong are.file) },
    )

pub image_law : Parts → ImageLaw
image_law parts file exe edges e set few room =
    let a = accepted file exe e in
    let both : Preserves file (image exe edges) × Covers file (image exe edges) edges = ⊎_elim
    (λ (h : AreBytes file). let both = parts.preserve file exe edges [] (image exe edges) (coded_of exe edges) e
    (image_laws parts exe edges a.fields (segments_of_bytes Original file exe h e) set few room) in
    (both.0, subst (Covers file (image exe edges)) (append-nil edges) both.1))
    (λ (wrong : AreBytes file → ⊥). no_runs parts.laid file exe edges a.fields room wrong)
    (bytes_or_not file) in
    (a.as_guest, both.0, both.1)
