-- 01, "The table of states": the states, and the rule of `can_move_to` as fire.rs writes it.
pub mod States
pub mod Moves
