-- A packet in hand.
pub mod InHand
