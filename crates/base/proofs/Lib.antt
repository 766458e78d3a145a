-- Laws of the definitions in specs/, of xor, and of the loops that store a table, columns, a run of elements or of bytes place by place.
pub mod Table
pub mod Iterate
pub mod Every
pub mod Quad
pub mod Xor
pub mod Zip
pub mod Arrays
pub mod Stored
pub mod Bytes
pub mod Put
pub mod Engine
pub mod Refused
pub mod Lists
pub mod Maps
