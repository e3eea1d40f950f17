-- Why bytes are refused, and the words that say so.
use Rattle.std.specs.Prelude.{ℕ, zero, suc, List, [], ◌++◌, codes}
use Rattle.std.specs.Fmt.{decimal}

pub data Refusal : Type 0 where
  end_in_value : Refusal
  end_in_array : Refusal
  end_in_map : Refusal
  length_out_of_range : Refusal
  invalid_utf8 : Refusal
  unassigned_code : Refusal
  unexpected_code : Refusal
  trailing_data : Refusal
  too_deep : Refusal
  scratch_too_small : Refusal
  wrong_struct_format : Refusal

abbrev pub words : Refusal → List ℕ
words end_in_value = codes "EOF while parsing a value"
words end_in_array = codes "EOF while parsing an array"
words end_in_map = codes "EOF while parsing a map"
words length_out_of_range = codes "length out of range"
words invalid_utf8 = codes "invalid UTF-8"
words unassigned_code = codes "unassigned type"
words unexpected_code = codes "unexpected code"
words trailing_data = codes "trailing data"
words too_deep = codes "recursion limit exceeded"
words scratch_too_small = codes "Scratch buffer too small"
words wrong_struct_format = codes "wrong struct format"

-- what follows the words: the offset, where it isn't 0
abbrev pub at_offset : ℕ → List ℕ
at_offset zero = []
at_offset (suc n) = codes " at offset " ++ decimal (suc n)
