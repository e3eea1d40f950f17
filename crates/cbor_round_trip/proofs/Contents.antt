-- What a value is, by what it holds.
use Rattle.std.proofs.Common.{◌≡◌, ℕ, List, Some, ap, sym}
use Rattle.cbor_model.specs.Plain.{Val, null, bool, integer, float, bytes, text, array, map, tag, Vals, Pairs}
use Rattle.cbor_value.specs.Contents.{as_array, as_bytes, as_map, as_tag, as_text}

pub holds_bytes : (v : Val) (b : List ℕ) → Some b ≡ as_bytes v → v ≡ bytes b
holds_bytes (bytes c) b is = cc
holds_bytes null b is = absurd cc
holds_bytes (bool c) b is = absurd cc
holds_bytes (integer z) b is = absurd cc
holds_bytes (float w c) b is = absurd cc
holds_bytes (text c) b is = absurd cc
holds_bytes (array vs) b is = absurd cc
holds_bytes (map ps) b is = absurd cc
holds_bytes (tag n w) b is = absurd cc

pub holds_text : (v : Val) (b : List ℕ) → Some b ≡ as_text v → v ≡ text b
holds_text (text c) b is = cc
holds_text null b is = absurd cc
holds_text (bool c) b is = absurd cc
holds_text (integer z) b is = absurd cc
holds_text (float w c) b is = absurd cc
holds_text (bytes c) b is = absurd cc
holds_text (array vs) b is = absurd cc
holds_text (map ps) b is = absurd cc
holds_text (tag n w) b is = absurd cc

pub holds_array : (v : Val) (vs : Vals) → Some vs ≡ as_array v → v ≡ array vs
holds_array (array ws) vs is = cc
holds_array null vs is = absurd cc
holds_array (bool c) vs is = absurd cc
holds_array (integer z) vs is = absurd cc
holds_array (float w c) vs is = absurd cc
holds_array (bytes c) vs is = absurd cc
holds_array (text c) vs is = absurd cc
holds_array (map ps) vs is = absurd cc
holds_array (tag n w) vs is = absurd cc

pub holds_map : (v : Val) (ps : Pairs) → Some ps ≡ as_map v → v ≡ map ps
holds_map (map qs) ps is = cc
holds_map null ps is = absurd cc
holds_map (bool c) ps is = absurd cc
holds_map (integer z) ps is = absurd cc
holds_map (float w c) ps is = absurd cc
holds_map (bytes c) ps is = absurd cc
holds_map (text c) ps is = absurd cc
holds_map (array vs) ps is = absurd cc
holds_map (tag n w) ps is = absurd cc

pub holds_tag : (v : Val) (n : ℕ) (w : Val) → Some (n, w) ≡ as_tag v → v ≡ tag n w
holds_tag (tag m u) n w is =
    let one : (n, w) ≡ (m, u) = cc in ap (λ (p : ℕ × Val). tag p.0 p.1) (sym one)
holds_tag null n w is = absurd cc
holds_tag (bool c) n w is = absurd cc
holds_tag (integer z) n w is = absurd cc
holds_tag (float x c) n w is = absurd cc
holds_tag (bytes c) n w is = absurd cc
holds_tag (text c) n w is = absurd cc
holds_tag (array vs) n w is = absurd cc
holds_tag (map ps) n w is = absurd cc
