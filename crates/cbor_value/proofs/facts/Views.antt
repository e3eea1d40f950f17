-- Published: what texts, lists of values and lists of pairs stand for.
pub use Rattle.cbor_value.proofs.Views.{view_text, view_bytes, view_array, view_map, view_tag, count_views}
pub use Rattle.cbor_value.proofs.Sorting.{put_all-push}
