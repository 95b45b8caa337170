-- Steps of the writer's loops.
use Rattle.std.proofs.Common.{◌≡◌, ℕ, ◌+◌, ◌*◌, ◌^◌, ◌≤◌, List, [], ◌∷◌, ◌++◌, length, refl, sym, ap, ◌∙◌, arith, append_assoc, length-append}
use Rattle.br_word.specs.Memory.{bytes_of}
use Rattle.elf_read.specs.declared.exe.Segment.{Segment}
use Rattle.elf_read.specs.Elf.{IsSegment, AreSegments, sizes}
use Rattle.elf_write.specs.File.{end_after, end_of_all, piece_of, program_header, program_headers, pieces, file_header, head_length, file_of, IsWritable}
use Rattle.elf_write.proofs.ReadBack.{end_bound, headers_apart, file_head_apart}

-- what is left to be written at a place, below a limit
pub record IsLeft (limit at : ℕ) (left : List Segment) : Type 0 where
  pub each : AreSegments 0x01000000 left
  pub room : at + 4096 * length left + sizes left ≤ limit

pub left_at : (limit at : ℕ) (s : Segment) (rest : List Segment) → limit ≤ 2 ^ 31 → IsLeft limit at (s ∷ rest) → (at + s.size ≤ 2 ^ 31) × IsSegment 0x01000000 s × IsLeft limit (end_after at s) rest
left_at limit at s rest small l =
    let r = l.room in
    let b = end_bound at s l.each.0.bytes in
    (omega arith, l.each.0, record { each = l.each.1; room = omega arith })

header_apart : (at : ℕ) (s : Segment) (rest : List ℕ) → program_header at s rest ≡ program_header at s [] ++ rest
unfolding bytes_of
header_apart at s rest = refl

pub headers_step : (out out2 all : List ℕ) (at at2 : ℕ) (s : Segment) (ss rest : List Segment) → ss ≡ s ∷ rest → out2 ≡ out ++ program_header at s [] → at2 ≡ end_after at s → out ++ program_headers at ss [] ≡ all → out2 ++ program_headers at2 rest [] ≡ all
headers_step out out2 all at at2 s ss rest e o a h =
    let more = program_headers (end_after at s) rest [] in
    ap (λ x. x ++ program_headers at2 rest []) o
    ∙ ap (λ x. (out ++ program_header at s []) ++ program_headers x rest []) a
    ∙ append_assoc out (program_header at s []) more
    ∙ ap (λ x. out ++ x) (sym (header_apart at s more))
    ∙ ap (λ x. out ++ program_headers at x []) (sym e)
    ∙ h

pub pieces_step : (out out2 all : List ℕ) (at at2 : ℕ) (s : Segment) (ss rest : List Segment) → ss ≡ s ∷ rest → out2 ≡ out ++ piece_of at s → at2 ≡ end_after at s → out ++ pieces at ss ≡ all → out2 ++ pieces at2 rest ≡ all
pieces_step out out2 all at at2 s ss rest e o a h =
    ap (λ x. x ++ pieces at2 rest) o
    ∙ ap (λ x. (out ++ piece_of at s) ++ pieces x rest) a
    ∙ append_assoc out (piece_of at s) (pieces (end_after at s) rest)
    ∙ ap (λ x. out ++ pieces at x) (sym e)
    ∙ h

-- ---- two lists of segments, one after the other

headers_join : (at : ℕ) (ss ts : List Segment) → program_headers at (ss ++ ts) [] ≡ program_headers at ss [] ++ program_headers (end_of_all at ss) ts []
unfolding bytes_of
headers_join at [] ts = refl
headers_join at (s ∷ ss) ts = ap (program_header at s) (headers_join (end_after at s) ss ts)

pieces_join : (at : ℕ) (ss ts : List Segment) → pieces at (ss ++ ts) ≡ pieces at ss ++ pieces (end_of_all at ss) ts
pieces_join at [] ts = refl
pieces_join at (s ∷ ss) ts =
    ap (λ x. piece_of at s ++ x) (pieces_join (end_after at s) ss ts)
    ∙ sym (append_assoc (piece_of at s) (pieces (end_after at s) ss) (pieces (end_of_all (end_after at s) ss) ts))

first_are : (ss ts : List Segment) → AreSegments 0x01000000 (ss ++ ts) → AreSegments 0x01000000 ss
first_are [] ts h = tt
first_are (s ∷ ss) ts h = (h.0, first_are ss ts h.1)

rest_are : (ss ts : List Segment) → AreSegments 0x01000000 (ss ++ ts) → AreSegments 0x01000000 ts
rest_are [] ts h = h
rest_are (s ∷ ss) ts h = rest_are ss ts h.1

sizes_join : (ss ts : List Segment) → sizes (ss ++ ts) ≡ sizes ss + sizes ts
sizes_join [] ts = omega arith
sizes_join (s ∷ ss) ts = let e = sizes_join ss ts in omega arith

-- what the two lists of a file satisfy, from a place below the end of the headers
pub record AreParts (ss ts : List Segment) : Type 0 where
  pub count : length ss + length ts ≤ 66
  pub first : AreSegments 0x01000000 ss
  pub rest : AreSegments 0x01000000 ts
  pub memory : sizes ss + sizes ts ≤ 268435456

pub parts : (ss ts : List Segment) (entry : ℕ) → IsWritable (ss ++ ts) entry → AreParts ss ts
parts ss ts entry w =
    let c = w.count in
    let m = w.memory in
    let e = sizes_join ss ts in
    let l = length-append ss ts in
    record { count = omega arith; first = first_are ss ts w.each; rest = rest_are ss ts w.each; memory = omega arith }

-- the parts of a file, one after another
pub whole_file : (out1 out2 out3 out4 out5 : List ℕ) (ss ts : List Segment) (count start middle entry : ℕ) → count ≡ length ss + length ts → start ≡ 52 + 32 * count → middle ≡ end_of_all start ss → out1 ≡ file_header count entry [] → out2 ≡ out1 ++ program_headers start ss [] → out3 ≡ out2 ++ program_headers middle ts [] → out4 ≡ out3 ++ pieces start ss → out5 ≡ out4 ++ pieces middle ts → out5 ≡ file_of (ss ++ ts) entry
unfolding file_of
whole_file out1 out2 out3 out4 out5 ss ts count start middle entry c st mi e1 e2 e3 e4 e5 =
    let both = ss ++ ts in
    let n : count ≡ length both = c ∙ sym (length-append ss ts) in
    let h : start ≡ head_length both = st ∙ ap (λ n. 52 + 32 * n) n in
    let head = file_header (length both) entry [] in
    let table = program_headers (head_length both) both [] in
    let body = pieces (head_length both) both in
    let a1 : out1 ≡ head = e1 ∙ ap (λ n. file_header n entry []) n in
    let m1 = headers_join start ss ts in
    let m2 = pieces_join start ss ts in
    let t : program_headers start ss [] ++ program_headers middle ts [] ≡ table = ap (λ x. program_headers start ss [] ++ program_headers x ts []) mi ∙ sym m1 ∙ ap (λ x. program_headers x both []) h in
    let p : pieces start ss ++ pieces middle ts ≡ body = ap (λ x. pieces start ss ++ pieces x ts) mi ∙ sym m2 ∙ ap (λ x. pieces x both) h in
    let a3 : out3 ≡ out1 ++ (program_headers start ss [] ++ program_headers middle ts []) = e3 ∙ ap (λ x. x ++ program_headers middle ts []) e2 ∙ append_assoc out1 _ _ in
    let a5 : out5 ≡ out3 ++ (pieces start ss ++ pieces middle ts) = e5 ∙ ap (λ x. x ++ pieces middle ts) e4 ∙ append_assoc out3 _ _ in
    let all : out5 ≡ (head ++ table) ++ body = cc in
    all ∙ ap (λ x. x ++ body) (sym (file_head_apart (length both) entry [] table)) ∙ sym (file_head_apart (length both) entry table body) ∙ ap (file_header (length both) entry) (sym (headers_apart (head_length both) both body))
