use Rattle.std.proofs.Common.{◌≡◌, ◌<◌, ◌+◌, ◌++◌, ◌∷◌, [], List, ℕ, Bor, map, take, length, true, ap, ◌∙◌, sym, arith, slice_index_or, length-append}
use Rattle.std.specs.List.{concat}
use Rattle.std.specs.Str.{is_utf8}
use Rattle.std.proofs.lemmas.List.{map_more, take_all}
use Rattle.std.proofs.lemmas.Str.{is_utf8-from_IsUtf8}
use Rattle.grain_pools.specs.Names.{texts}
use Rattle.grain_pools.proofs.TableGrowth.{no_name, concat_more, starts_more, texts_more, front_more, front_texts_le, made_table, names_of_made}
use Rattle.grain_pools.proofs.strings.Strings.new.Goals as goal

pub overflow_cast-len-in-loop-name : goal.overflow_cast-len-in-loop-name
overflow_cast-len-in-loop-name c =
    let i = c.loop-name.name-index in
    let ns = c.args.names.now in
    let inside : i < length ns = omega arith in
    let bytes : c.extend_from_slice.new.self.items ≡ concat (texts (take i ns)) ++ (slice_index_or ns i no_name).now = rw (c.as_bytes.ensures.value, c.loop-name.invariant.blob_is) at
    c.in_ok-extend_from_slice.ensures.items in
    omega (arith, ap length bytes, length-append (concat (texts (take i ns))) (slice_index_or ns i no_name).now, front_more ns i no_name inside, front_texts_le ns (i + 1), c.in-Some.ensures.some)

pub loop-name-preserved : goal.loop-name-preserved
loop-name-preserved c =
    let i = c.loop-name.name-index in
    let ns = c.args.names.now in
    let xs = map (λ (n : Bor (List ℕ)). n.now) (take i ns) in
    let y = (slice_index_or ns i no_name).now in
    let inside : i < length ns = omega arith in
    let more : map (λ (n : Bor (List ℕ)). n.now) (take (i + 1) ns) ≡ xs ++ y ∷ [] = map_more (λ (n : Bor (List ℕ)). n.now) ns i no_name inside in
    let text : is_utf8 y ≡ true = rw c.as_bytes.ensures.value at (is_utf8-from_IsUtf8 c.as_bytes.result.now c.as_bytes.ensures.utf8) in
    let bytes : c.extend_from_slice.new.self.items ≡ concat xs ++ y = rw (c.as_bytes.ensures.value, c.loop-name.invariant.blob_is) at c.in_ok-extend_from_slice.ensures.items in
    let long : length (concat xs) + length y ≡ c.len.result = (let l : length c.extend_from_slice.new.self.items ≡ length (concat xs ++ y) = ap length bytes in omega (arith, length-append (concat xs) y, l)) in
    rw more (record {
      blob_is = bytes ∙ sym (concat_more xs y);
      starts_are = c.in_ok-push-2.ensures.items ∙ ap (λ (r : List ℕ). r ++ c.len.result ∷ []) c.loop-name.invariant.starts_are ∙ sym (starts_more 0 xs y c.len.result (omega arith));
      texts = texts_more xs y c.loop-name.invariant.texts text;
    })

pub invariant_of-result : goal.invariant_of-result
invariant_of-result c =
    let xs = map (λ (n : Bor (List ℕ)). n.now) (take c.loop-name.name-index c.args.names.now) in
    rw (c.loop-name.invariant.blob_is, c.loop-name.invariant.starts_are) (made_table xs c.loop-name.invariant.texts)

pub returns-clause-ok : goal.returns-clause-ok
returns-clause-ok c =
    let xs = map (λ (n : Bor (List ℕ)). n.now) (take c.loop-name.name-index c.args.names.now) in
    let all : take c.loop-name.name-index c.args.names.now ≡ c.args.names.now = take_all c.loop-name.name-index c.args.names.now (omega arith) in
    rw (c.loop-name.invariant.blob_is, c.loop-name.invariant.starts_are) (names_of_made xs ∙ ap (λ (ns : List (Bor (List ℕ))). map (λ n. n.now) ns) all)
