pub mod Children
pub mod ExprPlaces
pub mod Order
pub mod StmtPlaces
pub mod Standing
pub mod Steps
pub mod Tops
