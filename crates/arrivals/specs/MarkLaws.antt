-- The laws of marks that those above cite.
pub use Rattle.marks.specs.MarkLaws.{mark_turn, mark_none}
