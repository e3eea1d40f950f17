-- The items that are URIs.
use Rattle.std.specs.Prelude.{◌≡◌, ℕ, Option, None, Some, String}
use Rattle.std.specs.Global.{Global}
use Rattle.serde_cbor.specs.Raw.{Raw}
use Rattle.serde_cbor.specs.Tagged.{IsTagged}
use Rattle.row_types.specs.declared.bookmark.Uri.{Uri}

-- no tag, or that of a URI (RFC 7049, section 2.4.4.3)
abbrev pub IsKnown : Option ℕ → Type 0
IsKnown None = Unit {0}
IsKnown (Some n) = n ≡ 32

-- a text within such a tag, or within none
pub record IsUri (reads : Raw → String Global → Type 0) (r : Raw) (u : Uri) : Type 0 where
  pub tag : Option ℕ
  pub text : IsTagged reads r tag u.0
  pub known : IsKnown tag
