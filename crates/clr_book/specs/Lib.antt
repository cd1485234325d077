pub mod Book
pub mod FencePlaces
pub mod Growth
pub mod Laws
pub mod Own
