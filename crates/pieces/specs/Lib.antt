-- The messages that a writer's arguments say.
pub mod Places
