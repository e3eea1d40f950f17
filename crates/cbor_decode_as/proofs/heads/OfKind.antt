-- What is read after a head is of its kind.
use Rattle.std.proofs.Common.{◌≡◌, ℕ, Bool, true, false, cond, List, Option, Some, None, Ok, Err, refl, sym, ap, ◌∙◌}
use Rattle.cbor_model.specs.Formats.{Formats}
use Rattle.cbor_model.specs.Head.{HeadWidth}
use Rattle.cbor_model.specs.Raw as raw
use Rattle.cbor_model.specs.Raw.{Raw}
use Rattle.cbor_model.specs.Reader.{Reads, Fault, ◌>>=◌, bytes_at, string_at, checked_text, text_at, string_chunks_at, text_chunks_at, chunks_at, array_at, map_at, tag_at}
use Rattle.cbor_model.proofs.facts.Reader.{ok_is}
use Rattle.cbor_value.specs.declared.Float.TheVariants.{Half, Single, Double}
use Rattle.cbor_decode.specs.Gives.{Limits}
use Rattle.cbor_decode.specs.Heads.{behind_head}
use Rattle.cbor_decode.specs.declared.head.Head.{Head}
use Rattle.cbor_decode.specs.declared.head.Head.TheVariants as head
use Rattle.cbor_decode_as.specs.Kinds.{Kind, kind_of, head_kind}
use Rattle.cbor_decode_as.specs.Kinds as kind
use Rattle.cbor_decode_as.specs.Takes.{raws}

-- all that is read is of this kind
abbrev IsOf : Kind → Reads Raw → Type 0
IsOf k read = (r : Raw) (rest : List ℕ) → read ≡ Ok (r, rest) → kind_of r ≡ k

is_of : (k : Kind) (r : Raw) (rest : List ℕ) → kind_of r ≡ k → IsOf k (Ok (r, rest))
is_of k r rest e s more is = ap (λ (p : Raw × List ℕ). kind_of p.0) (sym (ok_is (r, rest) (s, more) is)) ∙ e

none_of : (k : Kind) (f : Fault) → IsOf k (Err f)
none_of k f s more is = absurd cc

made_of : {A : Type 0} (k : Kind) (read : Reads A) (make : A × List ℕ → Raw) → ((x : A × List ℕ) → kind_of (make x) ≡ k) → IsOf k (read >>= (λ x. Ok (make x, x.1)))
made_of k (Ok x) make e = is_of k (make x) x.1 (e x)
made_of k (Err f) make e = none_of k f

-- whichever way a test goes
either_of : (k : Kind) (c : Bool) (x y : Reads Raw) → IsOf k x → IsOf k y → IsOf k (cond c x y)
either_of k true x y a b = a
either_of k false x y a b = b

bind_of : {A : Type 0} (k : Kind) (read : Reads A) (f : A × List ℕ → Reads Raw) → ((x : A × List ℕ) → IsOf k (f x)) → IsOf k (read >>= f)
bind_of k (Ok x) f e = e x
bind_of k (Err g) f e = none_of k g

module _ (f : Formats) (l : Limits) (inner : Option (List ℕ → Reads Raw)) (w : HeadWidth) (bs : List ℕ) where
  string_of : (n : ℕ) → IsOf kind.bytes (string_at (raws f l) w n bs)
  unfolding string_at
  string_of n = made_of kind.bytes (bytes_at n bs) (λ b. raw.bytes (record { width = w; bytes = b.0 })) (λ b. refl)

  string_chunks_of : IsOf kind.bytes (string_chunks_at (raws f l) bs)
  unfolding string_chunks_at
  string_chunks_of = made_of kind.bytes (chunks_at (raws f l).exceeds 0 2 bs) (λ cs. raw.bytes_chunks cs.0) (λ cs. refl)

  checked_of : (r : Raw) (b rest : List ℕ) → kind_of r ≡ kind.text → IsOf kind.text (checked_text (raws f l) r b rest)
  unfolding checked_text
  checked_of r b rest e = either_of kind.text ((raws f l).is_text b) _ _ (is_of kind.text r rest e) (none_of kind.text _)

  text_of : (n : ℕ) → IsOf kind.text (text_at (raws f l) w n bs)
  unfolding text_at
  text_of n = either_of kind.text _ _ _ (bind_of kind.text (bytes_at n bs) _ (λ b. checked_of (raw.text (record { width = w; bytes = b.0 })) b.0 b.1 refl)) (none_of kind.text _)

  text_chunks_of : IsOf kind.text (text_chunks_at (raws f l) bs)
  unfolding text_chunks_at
  text_chunks_of = bind_of kind.text (chunks_at (raws f l).exceeds 0 3 bs) _ (λ cs. checked_of (raw.text_chunks cs.0) _ cs.1 refl)

  pub kinds : (h : Head) → IsOf (head_kind h) (behind_head (raws f l) inner w h bs)
  unfolding array_at map_at tag_at
  kinds (head.Unsigned n) = is_of kind.unsigned _ bs refl
  kinds (head.Negative n) = is_of kind.negative _ bs refl
  kinds (head.Bytes (Some n)) = string_of n
  kinds (head.Bytes None) = string_chunks_of
  kinds (head.Text (Some n)) = text_of n
  kinds (head.Text None) = text_chunks_of
  kinds (head.Array r) = bind_of kind.array _ _ (λ x. is_of kind.array _ x.1 refl)
  kinds (head.Map r) = bind_of kind.map _ _ (λ x. is_of kind.map _ x.1 refl)
  kinds (head.Tag n) = bind_of kind.tag _ _ (λ x. is_of kind.tag _ x.1 refl)
  kinds (head.Bool false) = is_of kind.bool _ bs refl
  kinds (head.Bool true) = is_of kind.bool _ bs refl
  kinds head.Null = is_of kind.null _ bs refl
  kinds head.Undefined = is_of kind.undefined _ bs refl
  kinds (head.Float (Half n)) = is_of kind.float _ bs refl
  kinds (head.Float (Single n)) = is_of kind.float _ bs refl
  kinds (head.Float (Double n)) = is_of kind.float _ bs refl
  kinds head.Break = none_of kind.nothing _
