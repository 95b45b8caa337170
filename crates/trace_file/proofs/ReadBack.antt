-- What is written is read again.
use Rattle.std.proofs.Common.{◌≡◌, ℕ, ◌+◌, ◌*◌, ◌^◌, ◌<◌, ◌≤◌, true, List, [], ◌∷◌, ◌++◌, length, drop, get_or, None, refl, sym, ap, subst, ◌∙◌, arith, append_assoc, length-append}
use Rattle.std.specs.Prelude.{Ok, All, nat_lt, not}
use Rattle.std.specs.Str.{bytes_eq}
use Rattle.std.proofs.lemmas.Bool.{le-ltb}
use Rattle.std.proofs.lemmas.List.{take_at, drop_at, drop-drop, drop_more}
use Rattle.std.proofs.lemmas.List.Elements.{All-head, All-tail}
use Rattle.std.proofs.lemmas.Slice.Eq.{bytes_eq-Decides}
use Rattle.byteorder.specs.Endian.{little_number}
use Rattle.byteorder.specs.Numbers.{little_number-reads_back, length-bytes_low_first}
use Rattle.trace_file.specs.Edges.{Edge, ascends}
use Rattle.trace_file.specs.Trace.{magic, word, word_at, records, record_bytes, all_record_bytes, stored_digest, count_of, records_of, end_of, first_difference, disorder, refusal, trace, trace_bytes, AreWords, IsWritable, ReadsBack}
use Rattle.trace_file.proofs.Sorted.{edge}
use Rattle.trace_file.proofs.Records.{in_order_then}
use Rattle.trace_file.proofs.Result.{accepted_is, pass, no_place}

length_word : (v : ℕ) → length (word v) ≡ 4
unfolding word
length_word v = length-bytes_low_first 0 4 v

word_back : (at v : ℕ) (bytes rest : List ℕ) → v < 2 ^ 32 → drop at bytes ≡ word v ++ rest → word_at at bytes ≡ v
unfolding word word_at
word_back at v bytes rest h e = ap (little_number 4) e ∙ little_number-reads_back 4 v rest h

drop_word : (at v : ℕ) (bytes rest : List ℕ) → drop at bytes ≡ word v ++ rest → drop (at + 4) bytes ≡ rest
drop_word at v bytes rest e = sym (drop-drop 4 at bytes) ∙ ap (drop 4) e ∙ drop_at (word v) rest 4 (length_word v)

records_back : (es : List Edge) (at : ℕ) (bytes : List ℕ) → All AreWords es → drop at bytes ≡ all_record_bytes es → records (length es) at bytes ≡ es
records_back [] at bytes f d = refl
records_back (e ∷ es) at bytes f d =
    let p = All-head AreWords e es f in
    let after = all_record_bytes es in
    let first : drop at bytes ≡ word e.0 ++ (word e.1 ++ after) = d ∙ append_assoc (word e.0) (word e.1) after in
    let second : drop (at + 4) bytes ≡ word e.1 ++ after = drop_word at e.0 bytes (word e.1 ++ after) first in
    let third : drop (at + 4 + 4) bytes ≡ after = drop_word (at + 4) e.1 bytes after second in
    let eight : at + 8 ≡ at + 4 + 4 = omega arith in
    let rest = records_back es (at + 8) bytes (All-tail AreWords e es f) (ap (λ n. drop n bytes) eight ∙ third) in
    ap (λ s. edge s (word_at (at + 4) bytes) ∷ records (length es) (at + 8) bytes) (word_back at e.0 bytes (word e.1 ++ after) p.0 first)
    ∙ ap (λ t. edge e.0 t ∷ records (length es) (at + 8) bytes) (word_back (at + 4) e.1 bytes after p.1 second)
    ∙ ap (λ r. e ∷ r) rest

length_all : (es : List Edge) → length (all_record_bytes es) ≡ 8 * length es
length_all [] = refl
length_all (e ∷ es) =
    let h = length_all es in
    let a = length-append (record_bytes e) (all_record_bytes es) in
    let b = length-append (word e.0) (word e.1) in
    let s = length_word e.0 in
    let t = length_word e.1 in
    omega arith

-- what stands where in a written file
record AreParts (es : List Edge) (digest bytes : List ℕ) : Type 0 where
  front : first_difference 0 magic bytes ≡ None
  stored : stored_digest bytes ≡ digest
  count : count_of bytes ≡ length es
  list : records_of bytes ≡ es
  size : length bytes ≡ 44 + 8 * length es

parts : (es : List Edge) (digest : List ℕ) → IsWritable es digest → AreParts es digest (trace_bytes es digest)
unfolding trace_bytes
parts es digest w =
    let bytes = trace_bytes es digest in
    let recs = all_record_bytes es in
    let tail = word (length es) ++ recs in
    let n = w.count in
    let d40 : drop 40 bytes ≡ tail = sym (drop-drop 32 8 bytes) ∙ drop_at digest tail 32 w.whole in
    let d44 : drop 44 bytes ≡ recs = drop_word 40 (length es) bytes recs d40 in
    let c : count_of bytes ≡ length es = word_back 40 (length es) bytes recs (omega arith) d40 in
    let s : length bytes ≡ 8 + length (digest ++ tail) = length-append magic (digest ++ tail) in
    let l1 = length-append digest tail in
    let l2 = length-append (word (length es)) recs in
    let l3 = length_word (length es) in
    let l4 = length_all es in
    let l5 = w.whole in
    record {
      front = refl;
      stored = take_at digest tail 32 w.whole;
      count = c;
      list = ap (λ n. records n 44 bytes) c ∙ records_back es 44 bytes w.words d44;
      size = omega arith;
    }

accepted : (es : List Edge) (digest bytes : List ℕ) → AreParts es digest bytes → ascends es ≡ true → length es ≤ 2000000 → refusal bytes digest ≡ None
accepted es digest bytes p o m =
    let s = p.size in
    let c = p.count in
    let l : length bytes ≡ end_of bytes = omega arith in
    pass 21 _ _ p.front
    ∙ pass 23 _ _ (no_place (nat_lt (length bytes) 44) (length bytes) (le-ltb (length bytes) 44 (omega arith)))
    ∙ pass 22 _ _ (no_place (not (bytes_eq (stored_digest bytes) digest)) 8 (ap not ((bytes_eq-Decides (stored_digest bytes) digest).1 p.stored)))
    ∙ pass 26 _ _ (no_place (nat_lt 2000000 (count_of bytes)) 40 (le-ltb 2000000 (count_of bytes) (omega arith)))
    ∙ pass 23 _ _ (no_place (nat_lt (length bytes) (end_of bytes)) (length bytes) (le-ltb (length bytes) (end_of bytes) (omega arith)))
    ∙ pass 24 _ _ (ap (disorder 44) p.list ∙ in_order_then 44 es o)
    ∙ pass 25 _ None (no_place (nat_lt (end_of bytes) (length bytes)) (end_of bytes) (le-ltb (end_of bytes) (length bytes) (omega arith)))

pub read_back : ReadsBack
read_back es digest w =
    let p = parts es digest w in
    accepted_is (trace_bytes es digest) digest (accepted es digest (trace_bytes es digest) p w.order w.count) ∙ ap Ok p.list

-- the parts of a file, one after another
pub whole_file : (o0 o1 o2 o3 o4 digest : List ℕ) (n : ℕ) (es list : List Edge) → o0 ≡ [] → o1 ≡ o0 ++ magic → o2 ≡ o1 ++ digest → n ≡ length es → o3 ≡ o2 ++ word n → list ≡ es → o4 ≡ o3 ++ all_record_bytes list → o4 ≡ trace_bytes es digest
unfolding trace_bytes
whole_file o0 o1 o2 o3 o4 digest n es list e0 e1 e2 c e3 s e4 =
    let w : o3 ≡ o2 ++ word (length es) = e3 ∙ ap (λ n. o2 ++ word n) c in
    let r : o4 ≡ o3 ++ all_record_bytes es = e4 ∙ ap (λ l. o3 ++ all_record_bytes l) s in
    let m : o1 ≡ magic = e1 ∙ ap (λ x. x ++ magic) e0 in
    let all : o4 ≡ ((magic ++ digest) ++ word (length es)) ++ all_record_bytes es = cc in
    all ∙ append_assoc (magic ++ digest) (word (length es)) (all_record_bytes es) ∙ append_assoc magic digest (word (length es) ++ all_record_bytes es)

pub reads_back : (es list : List Edge) (digest file : List ℕ) → file ≡ trace_bytes es digest → list ≡ es → All AreWords list → ascends es ≡ true → length es ≤ 2000000 → length digest ≡ 32 → trace file digest ≡ Ok es
reads_back es list digest file e s w o n l =
    ap (λ f. trace f digest) e ∙ read_back es digest (record { order = o; count = n; words = subst (All AreWords) s w; whole = l })

-- a record more
pub push_step : (out out2 out3 all : List ℕ) (list : List Edge) (i : ℕ) → i < length list → out2 ≡ out ++ word (get_or list i (edge 0 0)).0 → out3 ≡ out2 ++ word (get_or list i (edge 0 0)).1 → out ++ all_record_bytes (drop i list) ≡ all → out3 ++ all_record_bytes (drop (i + 1) list) ≡ all
push_step out out2 out3 all list i l e2 e3 h =
    let e = get_or list i (edge 0 0) in
    let rest = all_record_bytes (drop (i + 1) list) in
    ap (λ x. x ++ rest) (e3 ∙ ap (λ x. x ++ word e.1) e2 ∙ append_assoc out (word e.0) (word e.1))
    ∙ append_assoc out (record_bytes e) rest
    ∙ ap (λ x. out ++ all_record_bytes x) (sym (drop_more list i (edge 0 0) l))
    ∙ h
