pub mod PushedCells
